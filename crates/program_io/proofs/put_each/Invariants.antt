use Rattle.program_io.proofs.Putting.{Putting}
use Rattle.program_io.proofs.put_each.Given as goal

abbrev pub invariant-loop-v : goal.invariant-loop-v
invariant-loop-v g l = Putting g.L.Laying.bytes l.s l.initial.out l.at l.out l.next l.v-index
