use Prim.Native.Nat.{◌-◌}
use lib.ListN.{length}
use Rattle.symbol_lookup.proofs.Walk.{Walked}
use Rattle.symbol_lookup.proofs.place_in.Given as goal

abbrev pub invariant-loop-at : goal.invariant-loop-at
invariant-loop-at l = Walked l.list l.symbol l.at l.i l.name

abbrev pub decreases-loop-at : goal.decreases-loop-at
decreases-loop-at l = length l.list - l.at
