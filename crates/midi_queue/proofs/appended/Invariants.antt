use Prim.Native.Nat.{◌+◌, ◌≤◌, ◌-◌}
use mathlib.Core.Path.{◌≡◌}
use mathlib.Core.List.{◌++◌}
use lib.ListN.{length, take}
use Rattle.player_model.specs.Lists.{over}
use Rattle.midi_queue.proofs.appended.Given as goal

abbrev pub invariant-loop-i : goal.invariant-loop-i
invariant-loop-i l = (l.i ≤ l.m) × (l.n + l.m ≤ 64) × (length l.initial.out ≡ 64) × (length l.more ≡ 65) × (l.out ≡ over (take l.n l.initial.out ++ take l.i l.more) l.initial.out)
