use mathlib.Core.Path.{refl}
use Rattle.midi_queue.specs.Keyboard.{no_messages}
use Rattle.midi_queue.proofs.no_messages.Goals as goal

pub returns : goal.returns
unfolding no_messages
returns c =
    refl
