use mathlib.Core.Path.{◌≡◌, sym, ◌∙◌}
use Prim.Native.Nat.{◌≤◌, ◌-◌}
use native.Mathlib.Omega.{arith}
use borrow.Author.Tests.{not-true, not-false}
use lib.ListN.{length, length-map}
use Rattle.code_program.specs.InstrumentTable.{instruments_of}
use Rattle.entrance_admission.proofs.Pushing.{Pushing, pushing-none, pushing-next, pushing-off, pushing-end, all-pushed}
use Rattle.entrance_admission.proofs.admit_lines.Given as goal

abbrev pub invariant-loop-i : goal.invariant-loop-i
invariant-loop-i l = (l.m ≤ 65) × Pushing l.timed (instruments_of l.instruments) l.old l.lines l.m l.q l.i
