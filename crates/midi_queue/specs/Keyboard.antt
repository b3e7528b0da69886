-- The note messages that wait, and what a keyboard call brings in.
use Rattle.std.specs.Prelude.{cond, List, ◌++◌, ℕ, ◌+◌, length, take, replicate, leb, Result, Ok, Err}
use Rattle.base_answer.specs.declared.Answer.{Answer}
use Rattle.base_answer.specs.declared.Answer.TheVariants.{NoRoom}
use Rattle.midi_messages.specs.Writing as midi
use Rattle.midi_messages.specs.inside.Reading.{blank}
use Rattle.midi_messages.specs.declared.NoteMessage.{NoteMessage}
use Rattle.player_model.specs.Lists.{over}
use Rattle.midi_queue.specs.declared.MessageQueue.{MessageQueue}

-- the most note messages that wait
abbrev pub most_messages : ℕ
most_messages = 64

-- those that wait
abbrev pub messages_in : MessageQueue → List NoteMessage
messages_in w = take w.count w.list

unfoldable pub no_messages : MessageQueue
no_messages = record { list = replicate most_messages blank; count = 0 }

-- with others behind them
unfoldable pub behind : MessageQueue → List NoteMessage → MessageQueue
behind w ms = record { list = over (messages_in w ++ ms) w.list; count = length (messages_in w ++ ms) }

-- a call's note messages go in, all of them; at a fault (1, 2), or where more would wait than can (8), none does
unfoldable pub enqueued_in : MessageQueue → midi.Call → Result MessageQueue Answer
enqueued_in w (midi.whole ms) = cond (leb (length (messages_in w) + length ms) most_messages) (Ok (behind w ms)) (Err NoRoom)
enqueued_in w (midi.fault a) = Err a
