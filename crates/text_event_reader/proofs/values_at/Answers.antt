use native.Mathlib.Omega.{arith}
use Rattle.text_event_reader.proofs.Lists.{starts, none_kept, ends, falls, again, stops}
use Rattle.text_event_reader.proofs.values_at.Goals as goal

pub loop-p-init : goal.loop-p-init
loop-p-init c =
    search (starts, none_kept)

pub overflow_add-result : goal.overflow_add-result
overflow_add-result c =
    omega (arith, c.starts_with.ensures.within c.loop-p-test.false)

pub loop-p-smaller : goal.loop-p-smaller
loop-p-smaller c =
    search (falls, c.in_ok-x.was)

pub loop-p-preserved : goal.loop-p-preserved
loop-p-preserved c =
    search (again, c.in_ok-x.was)

pub returns-in_err-x : goal.returns-in_err-x
returns-in_err-x c =
    search (stops, c.in_err-x.was)

pub returns : goal.returns
returns c =
    search ends
