-- MIDI 1.0's channel messages: which bytes begin one, how many data bytes it has, and which note message it is.
use Rattle.std.specs.Prelude.{ℕ, ◌/◌, ◌%◌, true, false, ◌||◌, cond, eqb, Option, Some, None}
use Rattle.midi_messages.specs.declared.NoteMessage.{NoteMessage}

-- a byte below 0x80 is data; from 0x80 on it is a status byte, which begins a channel message or, from 0xF0 on, is a system byte
abbrev pub first_status : ℕ
first_status = 0x80

abbrev pub first_system : ℕ
first_system = 0xf0

-- no status
abbrev pub none : ℕ
none = 0

-- a channel message's status byte is 16 times its kind, and its channel
abbrev pub kind : ℕ → ℕ
kind s = s / 16

abbrev pub channel_of : ℕ → ℕ
channel_of s = s % 16

-- Cn and Dn have one data byte; 8n, 9n, An, Bn and En have two
unfoldable pub data_bytes : ℕ → ℕ
data_bytes s = cond (eqb (kind s) 0xc || eqb (kind s) 0xd) 1 2

abbrev pub note_off : ℕ → ℕ → NoteMessage
note_off c k = record { on = false; channel = c; key = k; velocity = 0 }

-- a note-on with velocity 0 is a note-off
unfoldable pub note_on : ℕ → ℕ → ℕ → NoteMessage
note_on c k v = cond (eqb v 0) (note_off c k) (record { on = true; channel = c; key = k; velocity = v })

-- what a whole channel message is, of its status and its first two data bytes: 8n a note-off, 9n a note-on, any other no note message
unfoldable pub classified : ℕ → ℕ → ℕ → Option NoteMessage
classified s k v = cond (eqb (kind s) 8) (Some (note_off (channel_of s) k)) (cond (eqb (kind s) 9) (Some (note_on (channel_of s) k v)) None)
