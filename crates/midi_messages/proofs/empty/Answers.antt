use Rattle.midi_messages.proofs.OneByte.{nothing-held}
use Rattle.midi_messages.proofs.empty.Goals as goal

pub returns : goal.returns
returns c =
    search nothing-held
