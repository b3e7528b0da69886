use Rattle.std.proofs.Common.{ap}
use Rattle.program_io.proofs.Putting.{starts, again, put_same}
use Rattle.program_io.proofs.put_each.Goals as goal

pub loop-v-init : goal.loop-v-init
loop-v-init g c = starts _ _ _ _

pub loop-v-preserved : goal.loop-v-preserved
loop-v-preserved g c = again _ _ _ _ c.v-item.result c.loop-v.invariant c.loop-v-test.true (put_same (ap g.L.Laying.bytes c.v-item.is) c.put-next.ensures)
