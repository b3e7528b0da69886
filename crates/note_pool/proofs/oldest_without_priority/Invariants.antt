use Prim.Native.Nat.{◌≤◌, ◌-◌}
use lib.ListN.{take}
use Rattle.note_pool.proofs.Cutting.{Past}
use Rattle.note_pool.proofs.oldest_without_priority.Given as goal

abbrev pub invariant-loop-oldest : goal.invariant-loop-oldest
invariant-loop-oldest l = (l.oldest ≤ l.count) × (l.count ≤ 16) × Past (take l.count l.notes) l.oldest
