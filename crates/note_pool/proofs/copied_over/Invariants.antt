use mathlib.Core.Path.{◌≡◌}
use Prim.Native.Nat.{◌≤◌, ◌-◌}
use lib.ListN.{length, take}
use Rattle.player_model.specs.Lists.{over}
use Rattle.note_pool.proofs.copied_over.Given as goal

abbrev pub invariant-loop-i : goal.invariant-loop-i
invariant-loop-i l = (l.i ≤ l.m) × (l.m ≤ 16) × (length l.a ≡ 16) × (l.a ≡ over (take l.i l.new) l.initial.a)
