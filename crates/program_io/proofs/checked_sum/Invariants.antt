use Rattle.program_io.proofs.Samples.{Summing}
use Rattle.program_io.proofs.checked_sum.Given as goal

abbrev pub invariant-loop-v : goal.invariant-loop-v
invariant-loop-v l = Summing l.sum l.s l.n l.v-index
