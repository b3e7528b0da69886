use mathlib.Core.Path.{◌≡◌}
use lib.ListN.{drop}
use Rattle.text_number_writer.specs.Push.{push_all}
use Rattle.text_number_writer.proofs.push_word.Given as goal

abbrev pub invariant-loop-b : goal.invariant-loop-b
invariant-loop-b l = push_all l.text (drop l.b-index l.word) ≡ push_all l.initial.text l.word
