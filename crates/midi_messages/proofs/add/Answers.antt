use Rattle.midi_messages.proofs.OneByte.{add-note, add-full}
use Rattle.midi_messages.proofs.add.Goals as goal

pub returns-then-n-lt-MOST_READ : goal.returns-then-n-lt-MOST_READ
returns-then-n-lt-MOST_READ c =
    search add-note

pub returns : goal.returns
returns c =
    search add-full
