use mathlib.Core.Path.{refl}
use borrow.Author.Rules.{rules}
use lib.Ieee.{of_bits, of_int}
use Rattle.midi_keys.specs.Keys.{shared, normalized_velocity}
use Rattle.midi_keys.proofs.normalized_velocity.Goals as goal

pub returns : goal.returns
unfolding normalized_velocity shared of_bits of_int
returns c =
    record { is = refl; fits = search rules }
