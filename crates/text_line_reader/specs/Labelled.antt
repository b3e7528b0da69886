-- A part of the definition of a line.
use Rattle.std.specs.Prelude.{ℕ, Bool, List}
use Rattle.std.proofs.Math.Option.{some}
use Rattle.text_numerals.specs.inside.Reading.{Read, and_then, number_from}
use Rattle.text_format.specs.Content.{Content}
use Rattle.text_format.specs.inside.Reading.{colon_from, next_name, instr_from}
use Rattle.text_event_reader.specs.Results.{at_time}

-- behind a label
abbrev pub after_label : Bool → ℕ → List ℕ → Read Content
after_label priority label bs =
    and_then (colon_from bs) (λ x q. and_then (number_from q) (λ t p. and_then (next_name p) (λ name o. at_time priority t (instr_from (some label) name o))))
