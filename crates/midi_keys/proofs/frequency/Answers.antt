use mathlib.Core.Path.{refl}
use native.Mathlib.Nat.{le_of_lt}
use borrow.Author.Rules.{rules}
use lib.Dec.{le→leb}
use lib.Ieee.{in_float, of_bits, of_int}
use Rattle.midi_keys.specs.Keys.{table, shared, frequency_of}
use Rattle.midi_keys.proofs.Table.{entry-small}
use Rattle.midi_keys.proofs.Exact.{past}
use Rattle.midi_keys.proofs.frequency.Goals as goal

pub int_to_float-result : goal.int_to_float-result
unfolding table in_float
int_to_float-result c =
    le→leb _ _ (le_of_lt (entry-small c.args.key (search rules)))

pub returns-then-key-lt128 : goal.returns-then-key-lt128
unfolding frequency_of shared table of_bits of_int
returns-then-key-lt128 c =
    record { is = refl; fits = search rules }

pub returns : goal.returns
unfolding of_bits
returns c =
    record { is = past c.args.key c.if-key-lt128.false; fits = search rules }
