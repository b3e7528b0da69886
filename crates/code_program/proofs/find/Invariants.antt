use mathlib.Core.Bool.{true}
use lib.Dec.{eqb}
use Rattle.code_program.proofs.Finding.{get_take, in_take}
use mathlib.Core.Path.{◌≡◌, refl, ap, sym, ◌∙◌}
use Prim.Native.Nat.{ℕ, ◌≤◌, ◌-◌}
use native.Mathlib.Omega.{arith}
use lib.ListN.{length, take, drop, length-take, length-map}
use borrow.Author.Tests.{eq-eqb, ne_eqb}
use Rattle.base_laws.proofs.Lists.{take_min}
use Rattle.code_program.specs.InstrumentTable.{lookup_in, blank}
use Rattle.code_program.specs.declared.Instrument.{Instrument}
use Rattle.code_program.proofs.Finding.{found-no, found-yes, found-end}
use Rattle.code_program.proofs.find.Given as goal

abbrev pub invariant-loop-i : goal.invariant-loop-i
invariant-loop-i l = (l.i ≤ l.m) × (l.m ≤ 8) × (lookup_in l.name (drop l.i (take l.m l.table)) ≡ lookup_in l.name (take l.m l.table))
