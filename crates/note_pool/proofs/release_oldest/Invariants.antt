use Prim.Native.Nat.{◌≤◌, ◌-◌}
use lib.ListN.{take}
use Rattle.note_pool.proofs.Steps.{Unheld}
use Rattle.note_pool.proofs.release_oldest.Given as goal

abbrev pub invariant-loop-place : goal.invariant-loop-place
invariant-loop-place l = (l.place ≤ l.count) × (l.count ≤ 16) × Unheld l.channel l.key (take l.place l.notes)
