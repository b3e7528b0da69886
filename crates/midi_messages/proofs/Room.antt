-- 65 messages tell whether there is room: with n waiting, more than 64 would wait exactly where more than 64 of those handed on would.
use mathlib.Core.Path.{◌≡◌, ap}
use mathlib.Core.List.{List}
use Prim.Native.Nat.{ℕ, ◌+◌, ◌≤◌}
use native.Mathlib.Omega.{arith}
use borrow.Author.Tests.{leb-true, leb-false, lt-ltb}
use borrow.Table.Steps.{cases}
use lib.Dec.{leb, ltb}
use lib.ListN.{length}
use lib.Seq.{take_all, length-take-le}
use Rattle.base_answer.specs.declared.Answer.{Answer}
use Rattle.midi_messages.specs.declared.CallMessages.{CallMessages}
use Rattle.std.specs.Prelude.{Result, Ok, Err}
use Rattle.midi_messages.specs.Writing.{whole}
use Rattle.midi_messages.specs.inside.Reading.{most, messages_with, call_messages}
use Rattle.midi_messages.specs.declared.NoteMessage.{NoteMessage}

pub all-handed-on : (ms : List NoteMessage) → length ms ≤ most → call_messages (whole ms) ≡ Ok (messages_with ms)
unfolding call_messages
all-handed-on ms h = ap (λ x. Ok (messages_with x)) (take_all most ms h)

-- how many are handed on, and none at a fault
pub handed_on : Result CallMessages Answer → ℕ
handed_on (Ok g) = g.count
handed_on (Err a) = 0

pub room-told : (n : ℕ) (ms : List NoteMessage) → ltb 64 (n + handed_on (call_messages (whole ms))) ≡ ltb 64 (n + length ms)
unfolding call_messages handed_on
room-told n ms =
    cases (leb (length ms) most) (λ h. cc (take_all most ms (leb-true (length ms) most h)))
    (λ h. let l = leb-false (length ms) most h in rw (length-take-le most ms (omega arith), lt-ltb 64 (n + 65) (omega arith), lt-ltb 64 (n + length ms) (omega arith)))
