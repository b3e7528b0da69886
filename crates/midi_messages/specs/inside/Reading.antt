-- What a keyboard call says as the reader finds it, byte by byte; `EveryCall` and `OneParse` tie it to `Parses`.
use Rattle.std.specs.Prelude.{ℕ, cond, List, [], ◌∷◌, ◌++◌, length, take, drop, replicate, eqb, ltb, Option, None, Result, Ok, Err}
use Rattle.base_answer.specs.declared.Answer.{Answer}
use Rattle.base_answer.specs.declared.Answer.TheVariants.{CutShort, NotCarried}
use Rattle.midi_messages.specs.Message.{first_status, first_system, none, data_bytes, note_off, classified}
use Rattle.midi_messages.specs.Writing.{Call, whole, fault, before}
use Rattle.midi_messages.specs.declared.NoteMessage.{NoteMessage}
use Rattle.midi_messages.specs.declared.ParserState.{ParserState}
use Rattle.midi_messages.specs.declared.CallMessages.{CallMessages}

-- between two bytes: the running status, how many data bytes the message that has begun still wants, and the first that it had
abbrev pub parser_state : ℕ → ℕ → ℕ → ParserState
parser_state s w d = record { status = s; wants = w; first = d }

-- none at its start
abbrev pub start : ParserState
start = parser_state none 0 0

-- what a byte does: the place behind it and the note message that it ends, or the answer to a fault
abbrev pub Step : Type 0
Step = Result (ParserState × Option NoteMessage) Answer

-- a data byte for a message of status s that wants w of them
unfoldable pub feed_data : ℕ → ℕ → ℕ → ℕ → Step
feed_data s w d b = cond (eqb w 1) (Ok (parser_state s 0 0, classified s d b)) (Ok (parser_state s 1 b, None))

-- a data byte between messages: the running status has another message
unfoldable pub feed_running : ℕ → ℕ → Step
feed_running s b = cond (eqb s none) (Err NotCarried) (feed_data s (data_bytes s) 0 b)

-- a status byte between messages
unfoldable pub feed_status : ℕ → Step
feed_status b = cond (ltb b first_system) (Ok (parser_state b (data_bytes b) 0, None)) (Err NotCarried)

unfoldable pub stepped : ParserState → ℕ → Step
stepped p b =
    cond (eqb p.wants 0)
    (cond (ltb b first_status) (feed_running p.status b) (feed_status b))
    (cond (ltb b first_status) (feed_data p.status p.wants p.first b) (Err CutShort))

-- the rest of a call behind a step
abbrev pub behind : Step → (ParserState → Call) → Call
behind (Err a) f = fault a
behind (Ok (p, h)) f = before h (f p)

unfoldable pub call_from : ParserState → List ℕ → Call
call_from p [] = cond (eqb p.wants 0) (whole []) (fault CutShort)
call_from p (b ∷ bs) = behind (stepped p b) (λ q. call_from q bs)

-- the note messages of a keyboard call, in order, or the first of 1 and 2 in reading
unfoldable pub call_of : List ℕ → Call
call_of bs = call_from start bs

-- ---- what is handed on: the first 65 note messages, since 64 can wait and one more is too many
abbrev pub most : ℕ
most = 65

abbrev pub blank : NoteMessage
blank = note_off 0 0

-- 65 places that start with some messages
abbrev pub padded : List NoteMessage → List NoteMessage
padded ms = ms ++ drop (length ms) (replicate most blank)

abbrev pub messages_with : List NoteMessage → CallMessages
messages_with ms = record { list = padded ms; count = length ms }

unfoldable pub call_messages : Call → Result CallMessages Answer
call_messages (whole ms) = Ok (messages_with (take most ms))
call_messages (fault a) = Err a
