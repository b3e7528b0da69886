use Prim.Native.Nat.{◌≤◌}
use mathlib.Core.Path.{◌≡◌}
use Rattle.text_numerals.specs.Numeral.{digit_bytes, lowest}
use Rattle.text_number_writer.specs.Push.{push_all}
use Rattle.text_number_writer.proofs.push_digits.Given as goal

abbrev pub invariant-loop-j : goal.invariant-loop-j
invariant-loop-j l = (l.j ≤ 8) × (push_all l.text (digit_bytes (lowest l.j l.n)) ≡ push_all l.initial.text (digit_bytes (lowest l.k l.n)))
