use Prim.Native.Nat.{◌-◌}
use lib.ListN.{length}
use Rattle.engine_limiter.specs.Block.{limited}
use Rattle.engine_limiter.proofs.Loop.{Limiting}
use Rattle.engine_limiter.proofs.limit.Given as goal

abbrev pub invariant-loop-i : goal.invariant-loop-i
invariant-loop-i l = Limiting l.ceiling l.mix (limited l.ceiling l.mix l.initial.block) (length l.initial.block) l.block l.i
