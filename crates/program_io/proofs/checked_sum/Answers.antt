use Rattle.std.proofs.Common.{◌∙◌, arith}
use Rattle.program_io.proofs.Samples.{sums-again, sums-end, bits-read}
use Rattle.program_io.proofs.checked_sum.Goals as goal

pub loop-v-preserved : goal.loop-v-preserved
loop-v-preserved c = sums-again c.loop-v.invariant c.loop-v-test.true (c.sample_bits.ensures ∙ bits-read (record { sfits = omega arith }))

pub returns : goal.returns
returns c = sums-end c.loop-v.invariant c.loop-v-test.false
