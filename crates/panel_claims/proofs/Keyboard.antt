-- What a call at the keyboard leaves, of every panel.
use mathlib.Core.Path.{◌≡◌, refl, sym, ap, ◌∙◌}
use mathlib.Core.Bool.{Bool, true, false, cond, true≢false}
use mathlib.Core.List.{List, ◌++◌}
use Prim.Native.Nat.{ℕ, ◌+◌, ◌≤◌, ◌<◌}
use native.Mathlib.Omega.{arith}
use lib.ListN.{length, drop, length-append}
use lib.Seq.{take-append_seam}
use lib.Dec.{eqb, leb}
use borrow.Author.Tests.{leb-true, leb-false}
use Rattle.base_answer.specs.Numbers.{number_of}
use Rattle.base_answer.specs.declared.Answer.{Answer}
use Rattle.base_answer.specs.declared.Answer.TheVariants as answer
use Rattle.midi_messages.specs.Writing.{Call, whole, fault}
use Rattle.midi_messages.specs.inside.Reading.{call_of}
use Rattle.midi_messages.specs.declared.NoteMessage.{NoteMessage}
use Rattle.midi_messages.proofs.Meaning.{one-parse}
use Rattle.midi_messages.proofs.Faults.{Kind, is_whole, is_cut, is-not-carried, every-kind}
use Rattle.player_model.specs.Calls.{keyboard, one, no_buffers, After}
use Rattle.player_model.proofs.Loops.{length_over}
use Rattle.midi_queue.specs.Keyboard.{most_messages, messages_in, behind, enqueued_in}
use Rattle.midi_queue.specs.declared.MessageQueue.{MessageQueue}
use Rattle.std.specs.Prelude.{Result, Ok, Err}
use Rattle.player_calls.specs.OnState.{keyboard_call_of, with_keys}
use Rattle.base_answer.specs.declared.Answered.{Answered}
use Rattle.panel.specs.State.{with_state, with_messages}
use Rattle.panel.specs.Calls.{play_keys_of}
use Rattle.panel.specs.declared.Panel.{Panel}
use Rattle.panel_claims.specs.Claims.{core_after, after_of, TakesKeys, TakenKeys}
use Rattle.player_state.specs.declared.State.{State}

-- ---- note messages behind those that wait

pub waits-behind : (w : MessageQueue) (ms : List NoteMessage) → messages_in (behind w ms) ≡ messages_in w ++ ms
unfolding behind
waits-behind w ms = take-append_seam (messages_in w ++ ms) (drop (length (messages_in w ++ ms)) w.list)

pub count-behind : (w : MessageQueue) (ms : List NoteMessage) → (behind w ms).count ≡ length (messages_in (behind w ms))
unfolding behind
count-behind w ms = sym (ap length (take-append_seam (messages_in w ++ ms) (drop (length (messages_in w ++ ms)) w.list)))

pub length-behind : (w : MessageQueue) (ms : List NoteMessage) → length w.list ≡ 64 → length (messages_in w) + length ms ≤ 64 → length (behind w ms).list ≡ 64
unfolding behind
length-behind w ms long h = length_over (messages_in w ++ ms) w.list (omega (arith, length-append (messages_in w) ms)) ∙ long

-- ---- what the call leaves

pub data Presses (p : Panel) (bytes : List ℕ) (a : After Panel) : Type 0 where
  keys-over : p.core.state.playing.ended ≡ true → a ≡ record { player = p; answers = one 9 0; buffers = no_buffers } → Presses p bytes a
  keys-faulty : (f : Answer) → p.core.state.playing.ended ≡ false → call_of bytes ≡ fault f → eqb (number_of f) 0 ≡ false
      → a ≡ record { player = p; answers = one (number_of f) 0; buffers = no_buffers } → Presses p bytes a
  keys-full : (ms : List NoteMessage) → p.core.state.playing.ended ≡ false → call_of bytes ≡ whole ms → most_messages < length (messages_in p.core.state.messages) + length ms
      → a ≡ record { player = p; answers = one 8 0; buffers = no_buffers } → Presses p bytes a
  keys-taken : (ms : List NoteMessage) → p.core.state.playing.ended ≡ false → call_of bytes ≡ whole ms → length (messages_in p.core.state.messages) + length ms ≤ most_messages
      → a ≡ record { player = with_messages p (behind p.core.state.messages ms); answers = one 0 0; buffers = no_buffers } → Presses p bytes a

pub presses : (p : Panel) (bytes : List ℕ) → Presses p bytes (after_of p (keyboard bytes))
unfolding after_of core_after play_keys_of keyboard_call_of enqueued_in with_messages
presses p bytes = by_end p.core.state.playing.ended refl
  where
    w : MessageQueue
    w = p.core.state.messages

    out : Bool → Result MessageQueue Answer → Answered State
    out e r = cond e (record { left = p.core.state; answer = answer.Ended }) (with_keys p.core.state r)

    left : Bool → Result MessageQueue Answer → After Panel
    left e r = record { player = with_state p (out e r).left; answers = one (number_of (out e r).answer) 0; buffers = no_buffers }

    by-room : (ms : List NoteMessage) → p.core.state.playing.ended ≡ false → call_of bytes ≡ whole ms → (b : Bool) → leb (length (messages_in w) + length ms) most_messages ≡ b
        → Presses p bytes (left false (cond b (Ok (behind w ms)) (Err answer.NoRoom)))
    by-room ms e q true l = keys-taken ms e q (leb-true (length (messages_in w) + length ms) most_messages l) refl
    by-room ms e q false l = keys-full ms e q (leb-false (length (messages_in w) + length ms) most_messages l) refl

    by_call : p.core.state.playing.ended ≡ false → {c : Call} → call_of bytes ≡ c → Kind c → Presses p bytes (left false (enqueued_in w c))
    by_call e q (is_whole ms) = by-room ms e q (leb (length (messages_in w) + length ms) most_messages) refl
    by_call e q is_cut = keys-faulty answer.CutShort e q refl refl
    by_call e q is-not-carried = keys-faulty answer.NotCarried e q refl refl

    by_end : (b : Bool) → p.core.state.playing.ended ≡ b → Presses p bytes (left b (enqueued_in w (call_of bytes)))
    by_end true e = keys-over e refl
    by_end false e = by_call e refl (every-kind bytes)

pub taken-keys : TakenKeys
unfolding TakenKeys
taken-keys p bytes ms s t = go (presses p bytes)
  where
    go : Presses p bytes (after_of p (keyboard bytes)) → TakesKeys p ms (after_of p (keyboard bytes)).player
    go (keys-over e x) = absurd (true≢false (cc))
    go (keys-faulty f e q z x) = absurd (true≢false (cc))
    go (keys-full ns e q l x) = absurd (true≢false (cc))
    go (keys-taken ns e q l x) =
        let same : ns ≡ ms = cc (one-parse bytes (whole ms) s) in
        record { messages = behind p.core.state.messages ns; left = cc; waits = cc (waits-behind p.core.state.messages ns) }
