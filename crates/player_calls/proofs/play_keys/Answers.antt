use Rattle.std.specs.Prelude.{Ok, Err}
use Rattle.player_calls.proofs.Calling.{keys-over, keys_in}
use Rattle.player_calls.proofs.play_keys.Goals as goal

pub returns-then-s : goal.returns-then-s
returns-then-s c =
    keys-over _ _ c.if-s.true

pub returns-in-Ok : goal.returns-in-Ok
returns-in-Ok c =
    keys_in _ _ c.if-s.false (Ok c.in-Ok.messages) c.enqueue.ensures c.in-Ok.is

pub returns-in-Err : goal.returns-in-Err
returns-in-Err c =
    keys_in _ _ c.if-s.false (Err c.in-Err.answer) c.enqueue.ensures c.in-Err.is
