-- A refused orchestra leaves a blank program.
use mathlib.Core.Path.{◌≡◌, refl, ap, ◌∙◌}
use mathlib.Core.List.{[]}
use lib.ListN.{replicate}
use Rattle.orchestra_syntax.specs.Names.{most_instruments}
use Rattle.code_operations.specs.Words.{code_size}
use Rattle.code_lowering.specs.Orchestra.{code_of, rate_of_program, walk_from, filled}
use Rattle.orchestra_reader.specs.inside.Compiled as compiled
use Rattle.orchestra_reader.proofs.Verdict.{refused-blank as read-blank}
use Rattle.code_program.specs.InstrumentTable.{blank}
use Rattle.code_loader.specs.Loading.{most_starts, laid_in, rows_from, program_of, kept_of, load_of}
use Rattle.code_loader_claims.specs.Claims.{blank_program, RefusedBlank}

no_words : (code_of code_size most_starts [] []).words ≡ []
unfolding code_of rate_of_program walk_from
no_words = refl

no_table : laid_in most_instruments blank [] ≡ replicate most_instruments blank
unfolding laid_in
no_table = refl

nothing : kept_of compiled.blank ≡ blank_program
unfolding program_of rows_from filled
nothing = λ i. record { table = no_table i; count = 0; code = filled code_size (no_words i); vals = blank_program.vals }

pub refused-blank : RefusedBlank
unfolding load_of
refused-blank bs n = ap kept_of (read-blank bs n) ∙ nothing
