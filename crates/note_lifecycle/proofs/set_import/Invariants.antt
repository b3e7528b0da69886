use mathlib.Core.Path.{◌≡◌}
use Prim.Native.Nat.{◌≤◌, ◌-◌}
use lib.ListN.{length, take}
use Rattle.voices_compiled.specs.Voices.{named}
use Rattle.note_lifecycle.proofs.set_import.Given as goal

abbrev pub invariant-loop-j : goal.invariant-loop-j
invariant-loop-j l = (l.j ≤ 16) × (length l.out ≡ 16) × (take l.j l.out ≡ take l.j (named l.variable l.value l.imports l.values))
