use native.Mathlib.Omega.{arith}
use Rattle.text_event_reader.proofs.EventReaders.{ended_here, ended-not}
use Rattle.text_event_reader.proofs.ended.Goals as goal

pub overflow_add-result : goal.overflow_add-result
overflow_add-result c =
    omega (arith, c.starts_with.ensures.within c.if-starts_with.true)

pub returns-then-starts_with : goal.returns-then-starts_with
returns-then-starts_with c =
    search ended_here

pub returns : goal.returns
returns c =
    search ended-not
