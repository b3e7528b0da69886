-- What a keyboard call says is what the reader finds. Statements only.
use Rattle.std.specs.Prelude.{ℕ, ◌<◌, ◌≡◌, List, [], ◌∷◌}
use Rattle.midi_messages.specs.Message.{none}
use Rattle.midi_messages.specs.Writing.{Call, Parses, whole, fault}
use Rattle.midi_messages.specs.inside.Reading.{call_of}
use Rattle.midi_messages.specs.declared.NoteMessage.{NoteMessage}

-- a message's channel is below 16, its key and its velocity below 128
pub record Valid (m : NoteMessage) : Type 0 where
  pub channel : m.channel < 16
  pub key : m.key < 128
  pub velocity : m.velocity < 128

unfoldable pub AllValid : List NoteMessage → Type 0
AllValid [] = Unit {0}
AllValid (m ∷ ms) = Valid m × AllValid ms

unfoldable pub ValidCall : Call → Type 0
ValidCall (whole ms) = AllValid ms
ValidCall (fault a) = Unit {0}

-- It is what the bytes say, whatever the bytes, and they say nothing else.
abbrev pub EveryCall : Type 0
EveryCall = (bs : List ℕ) → Parses none bs (call_of bs)

abbrev pub OneParse : Type 0
OneParse = (bs : List ℕ) (c : Call) → Parses none bs c → call_of bs ≡ c

abbrev pub EveryMessageValid : Type 0
EveryMessageValid = (bs : List ℕ) → ValidCall (call_of bs)
