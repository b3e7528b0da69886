use Prim.Native.Nat.{◌≤◌, ◌-◌}
use Rattle.player_model.proofs.Loops.{Packed}
use Rattle.note_lifecycle.specs.OneNote.{goes_on_in}
use Rattle.note_pool.proofs.remaining.Given as goal

abbrev pub invariant-loop-i : goal.invariant-loop-i
invariant-loop-i l = (l.i ≤ l.m) × (l.m ≤ 16) × Packed (goes_on_in l.position) l.notes l.a l.k l.i
