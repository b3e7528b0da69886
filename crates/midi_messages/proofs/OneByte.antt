-- A lemma for each way through the functions on one byte and one message.
use mathlib.Core.Path.{◌≡◌, sym, ap}
use Prim.Native.Nat.{ℕ, ◌+◌, ◌<◌, ◌≤◌}
use borrow.Author.Tests.{lt-ltb, le-ltb, ne_eqb}
use mathlib.Core.List.{[]}
use lib.ListN.{set, replicate}
use Rattle.std.specs.Prelude.{None, Ok}
use Rattle.base_laws.proofs.Choice.{cond-true, cond-false}
use Rattle.midi_messages.specs.Message.{first_system, none, data_bytes}
use Rattle.midi_messages.specs.inside.Reading.{Step, parser_state, feed_data, feed_running, feed_status, most, blank, messages_with}
use Rattle.midi_messages.specs.inside.Passes.{added}
use Rattle.midi_messages.specs.declared.NoteMessage.{NoteMessage}
use Rattle.midi_messages.specs.declared.CallMessages.{CallMessages}

pub begun-on : {b n : ℕ} → b < first_system → n ≡ data_bytes b → ◌≡◌ {A = Step} (Ok (parser_state b n 0, None)) (feed_status b)
unfolding feed_status
begun-on {b} h e = cc (lt-ltb b first_system h)

pub resumed-on : (s b : ℕ) {n : ℕ} {r : Step} → (s ≡ none → ⊥) → n ≡ data_bytes s → r ≡ feed_data s n 0 b → r ≡ feed_running s b
unfolding feed_running
resumed-on s b h e q = cc (ne_eqb s none h)

pub add-note : (g : CallMessages) (m : NoteMessage) → g.count < most → record { list = set g.list g.count m; count = g.count + 1 } ≡ added g m
unfolding added
add-note g m t = sym (cond-true _ _ (lt-ltb g.count most t))

pub add-full : (g : CallMessages) (m : NoteMessage) → most ≤ g.count → g ≡ added g m
unfolding added
add-full g m t = sym (cond-false _ _ (le-ltb g.count most t))

pub nothing-held : {m : NoteMessage} → m ≡ blank → record { list = replicate most m; count = 0 } ≡ messages_with []
nothing-held e = ap (λ (m : NoteMessage). record { list = replicate most m; count = 0 }) e
