use native.Mathlib.Omega.{arith}
use Rattle.symbol_lookup.proofs.Walk.{starts, again, cut-there, ends}
use Rattle.symbol_lookup.proofs.place_in.Goals as goal

pub loop-at-init : goal.loop-at-init
loop-at-init c =
    search starts

pub overflow_cast-length : goal.overflow_cast-length
overflow_cast-length c =
    omega (arith, c.shared_slice_known-in-loop-at-1.given c.loop-at.at)

pub returns-then-list-start : goal.returns-then-list-start
returns-then-list-start c =
    search cut-there

pub loop-at-preserved : goal.loop-at-preserved
loop-at-preserved c =
    search again

pub returns : goal.returns
returns c =
    search ends
