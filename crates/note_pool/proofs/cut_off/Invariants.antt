use mathlib.Core.Path.{◌≡◌}
use Prim.Native.Nat.{◌+◌, ◌≤◌, ◌-◌}
use lib.ListN.{length, take}
use Rattle.player_model.specs.Lists.{over}
use Rattle.note_pool.specs.Notes.{without_element}
use Rattle.note_pool.proofs.cut_off.Given as goal

abbrev pub invariant-loop-i : goal.invariant-loop-i
invariant-loop-i l = (l.place ≤ l.i) × (l.i ≤ l.m) × (l.m + 1 ≡ l.v.count) × (l.v.count ≤ 16) × (length l.a ≡ 16)
    × (l.a ≡ over (without_element l.place (take (l.i + 1) l.notes)) l.notes)
