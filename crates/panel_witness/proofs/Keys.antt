-- The keyboard's piece by the panel's own calls: each answer and each block by its history, computed.
use mathlib.Core.Path.{◌≡◌, refl, ap, ◌∙◌, subst, subst⁻¹}
use mathlib.Core.Bool.{true, cond}
use mathlib.Core.List.{List, [], ◌∷◌}
use native.Mathlib.Omega.{arith}
use Prim.Native.Nat.{◌≤◌}
use lib.IntN.{ℤ, pos}
use lib.ListN.{replicate}
use lib.Ieee.{of_bits, of_int, to_bits, fits, size, add, mul, div, round, lt, le, eq}
use Rattle.orchestra_tokens.specs.declared.Token.{Token}
use Rattle.orchestra_tokens.specs.declared.Token.TheVariants.{Symbol, Sign}
use Rattle.orchestra_tokens.specs.Encoding.{all_valid, encoded, bytes_of}
use Rattle.orchestra_tokens.specs.Measures.{opened, since, brackets_within, stretches_within}
use Rattle.orchestra_syntax.specs.Names.{named, named_by, has, apart, known_in, known, all_obey_name_rules}
use Rattle.orchestra_syntax.specs.inside.Placed.{place_from, put_in, put}
use Rattle.orchestra_syntax.specs.Rates.{rate_of, rate, obeys_rate_rules, rate_rules}
use Rattle.orchestra_syntax.specs.Grammar.{named as a·name, none, out, one as one·name, more, some as some·fields, none as no·decls, is, Orchestra, last}
use Rattle.orchestra_reader.specs.Verdict.{Sized, Accepted}
use Rattle.orchestra_semantics.specs.inside.Placed.{value, assigned, outputs, pass, fresh as fresh_values, birth, k_pass, a_passes, cycle as note_cycle}
use Rattle.midi_keys.specs.Keys.{shared, normalized_velocity}
use Rattle.midi_messages.specs.Message as message
use Rattle.midi_messages.specs.Writing as midi
use Rattle.midi_messages.specs.inside.Reading as reading
use Rattle.midi_messages.specs.declared.NoteMessage.{NoteMessage}
use Rattle.midi_messages.proofs.Meaning.{every_call}
use Rattle.player_model.specs.Lists.{filter, fold, each, here as some-here}
use Rattle.player_model.specs.Cycle.{is_due, insert, ordered, any_end, last_tempo, samples, limited, joined_by, goes_on, is_held, release_oldest, started, controlled, pressed as born, after_message, after_messages, run_from, run_all}
use Rattle.player_model.specs.PlayerState.{behind, with_messages, due_at, later_than, due_of, ends_by, answer_of, started_of, notes_to_run, rendered_of, block_of, played, cycled}
use Rattle.player_model.specs.Plain.{plain_start}
use Rattle.base_float32.specs.Limit.{held, sample_of}
use Rattle.base_timebase.specs.Time.{cycle_of, cycle_in}
use Rattle.orchestra_semantics.specs.Meaning.{silent, instrument_of}
use Rattle.voices_resolved.specs.Tree.{imports_of, tree_voices}
use Rattle.player_model.specs.Calls.{Call, keyboard, cycle, whole_messages, Answer, one, is_zero, taken_of, trace_from, after_all}
use Rattle.player_model.specs.History.{History, unbegun, with_cycle, history_from}
use Rattle.panel_claims.specs.Verdict.{keys_taken, plays, once, Verdict}
use Rattle.player_model.specs.Set.{in_force, starting_tempo}
use Rattle.panel_claims.specs.Claims.{after_of, panel_after, Given}
use Rattle.panel_claims.proofs.Answers.{verdict-by-place}
use Rattle.panel_claims.proofs.Past.{placed_past, block-by-place}
use Rattle.voices_compiled.specs.Voices.{VoiceState}
use Rattle.panel_witness.specs.Growing.{ceiling, chosen, set_at_start}
use Rattle.panel_witness.specs.Calls.{lent}
use Rattle.panel_witness.proofs.Unchanged.{whole, first_says, kept-is}
use Rattle.panel_witness.specs.Keys.{bytes, tree, u, pressed, release, p0, p2, Pressed}

tokens : List Token
tokens =
    Sign 1 ∷ Symbol 1 ∷ Sign 15 ∷ Symbol 2 ∷ Sign 19 ∷ Symbol 3 ∷ Sign 16 ∷ Sign 17 ∷ Sign 6 ∷ Sign 15 ∷ Symbol 3 ∷ Sign 16 ∷ Sign 20 ∷ Sign 18 ∷ []

sized : Sized bytes tokens
unfolding tokens all_valid encoded bytes_of opened since brackets_within stretches_within of_bits to_bits fits size
sized = record { short = omega arith; encodes = record { listed = refl; encoded = refl }; within = refl }

derived : Orchestra tree tokens
unfolding tokens
derived = last (is 1 (some·fields (more 2 (one·name 3))) no·decls (out (a·name 3) none))

accepted : Accepted bytes tree
unfolding named named_by has apart known_in known all_obey_name_rules rate_of rate obeys_rate_rules rate_rules
accepted = record { tokens = tokens; sized = sized; derived = derived; named = refl; rated = refl }

given : Given u tree
given = record { accepted = accepted; whole = whole; set = _; first = first_says; there = some-here refl }

-- ---- the two messages

abbrev on : NoteMessage
on = record { on = true; channel = 0; key = 69; velocity = 64 }

abbrev off : NoteMessage
off = message.note_off 0 69

messages-are : (reading.call_of pressed ≡ midi.whole (on ∷ [])) × (reading.call_of release ≡ midi.whole (off ∷ []))
unfolding reading.call_of reading.call_from reading.stepped reading.feed_status reading.feed_data reading.feed_running message.data_bytes message.classified message.note_on midi.before
messages-are = (refl, refl)

content-on : midi.Parses message.none pressed (midi.whole (on ∷ []))
content-on = subst (midi.Parses message.none pressed) messages-are.0 (every_call pressed)

content-off : midi.Parses message.none release (midi.whole (off ∷ []))
content-off = subst (midi.Parses message.none release) messages-are.1 (every_call release)

-- ---- histories

-- one message behind
after-message : NoteMessage → History VoiceState → History VoiceState
after-message m h = record { holds = with_messages (m ∷ []) (behind [] h.holds); reached = h.reached; set = h.set }

begin : History VoiceState
begin = unbegun (set_at_start ceiling)

h1 : History VoiceState
h1 = after-message on begin

h2 : History VoiceState
h2 = with_cycle (tree_voices tree) chosen h1

h3 : History VoiceState
h3 = after-message off h2

h4 : History VoiceState
h4 = with_cycle (tree_voices tree) chosen h3

-- the block of the next cycle
abbrev block : History VoiceState → List ℤ
block h = block_of (tree_voices tree) (in_force chosen h.set) (due_of h.holds) h.holds.plays

one_more : 1 ≤ 64
one_more = omega arith

record Computed : Type 0 where
  on : Verdict tree begin (keyboard pressed) (one 0 0)
  first : Verdict tree h1 (cycle lent) (one 0 0)
  off : Verdict tree h2 (keyboard release) (one 0 0)
  last : Verdict tree h3 (cycle lent) (one 0 0)
  gone : Verdict tree h4 (cycle lent) (one 0 0)
  first_block : block h1 ≡ replicate samples (pos 16384)
  last_block : block h3 ≡ replicate samples (pos 16384)
  gone-block : block h4 ≡ replicate samples (pos 0)

computed : Computed
unfolding h4 h3 h2 h1 begin after-message behind with_messages answer_of block_of limited rendered_of notes_to_run started_of after_messages after_message born run_all run_from started controlled due_at later_than cycled plain_start starting_tempo ends_by any_end played goes_on is_held release_oldest last_tempo cycle_in cycle_of filter fold each is_due insert ordered joined_by shared normalized_velocity tree_voices instrument_of imports_of silent sample_of held note_cycle k_pass a_passes pass outputs assigned value fresh_values birth put put_in named_by named place_from add mul div round of_bits of_int lt le eq
computed =
    record {
      on = once (keys_taken (on ∷ []) refl content-on one_more);
      first = once (plays refl refl refl);
      off = once (keys_taken (off ∷ []) refl content-off one_more);
      last = once (plays refl refl refl);
      gone = once (plays refl refl refl);
      first_block = refl;
      last_block = refl;
      gone-block = refl;
    }

-- a keyboard call that is taken, in its history
presses : {h h' : History VoiceState} → h ≡ h' → {given : List Answer} → given ≡ one 0 0 → {c : midi.Call} {m : NoteMessage} → c ≡ midi.whole (m ∷ [])
    → record { holds = with_messages (cond (is_zero given) (whole_messages c) []) (behind (taken_of ([] ∷ []) given) h.holds); reached = h.reached; set = cond (is_zero given) h.set h.set } ≡ after-message m h'
unfolding after-message
presses e a q =
    λ i. record { holds = with_messages (cond (is_zero (a i)) (whole_messages (q i)) []) (behind (taken_of ([] ∷ []) (a i)) (e i).holds); reached = (e i).reached; set = cond (is_zero (a i)) (e i).set (e i).set }

-- ---- one call after the other

-- what a call answers, and the block that it leaves, by the history before it
module _ (cs : List Call) {h : History VoiceState} (e : placed_past u tree cs ≡ h) where
  answers : (c : Call) → Verdict tree h c (one 0 0) → (after_of (panel_after u tree cs) c).answers ≡ one 0 0
  answers c v = verdict-by-place u tree given cs c (one 0 0) (subst⁻¹ (λ (h : History VoiceState). Verdict tree h c (one 0 0)) e v)

  sounds : Verdict tree h (cycle lent) (one 0 0) → {b : List ℤ} → block h ≡ b → (after_of (panel_after u tree cs) (cycle lent)).buffers.block ≡ b
  sounds v f = block-by-place u tree given cs lent (ap is_zero (answers (cycle lent) v)) ∙ ap block e ∙ f

on-answer : (after_of p0 (keyboard pressed)).answers ≡ one 0 0
unfolding after_all history_from trace_from begin
on-answer = answers [] (ap unbegun (kept-is bytes)) (keyboard pressed) computed.on

past-on : placed_past u tree (keyboard pressed ∷ []) ≡ h1
unfolding history_from trace_from h1 begin
past-on = presses (ap unbegun (kept-is bytes)) on-answer messages-are.0

past_first : placed_past u tree (keyboard pressed ∷ cycle lent ∷ []) ≡ h2
unfolding history_from trace_from h2
past_first = ap (with_cycle (tree_voices tree) chosen) past-on

off-answer : (after_of p2 (keyboard release)).answers ≡ one 0 0
unfolding after_all
off-answer = answers (keyboard pressed ∷ cycle lent ∷ []) past_first (keyboard release) computed.off

abbrev calls : List Call
calls = keyboard pressed ∷ cycle lent ∷ keyboard release ∷ []

past_off : placed_past u tree calls ≡ h3
unfolding history_from trace_from h3
past_off = presses past_first off-answer messages-are.1

past-last : placed_past u tree (keyboard pressed ∷ cycle lent ∷ keyboard release ∷ cycle lent ∷ []) ≡ h4
unfolding history_from trace_from h4
past-last = ap (with_cycle (tree_voices tree) chosen) past_off

-- a cycle's answer and block
heard : (cs : List Call) {h : History VoiceState} → placed_past u tree cs ≡ h → Verdict tree h (cycle lent) (one 0 0) → {b : List ℤ} → block h ≡ b
    → ((after_of (panel_after u tree cs) (cycle lent)).answers ≡ one 0 0) × ((after_of (panel_after u tree cs) (cycle lent)).buffers.block ≡ b)
heard cs e v f = (answers cs e (cycle lent) v, sounds cs e v f)

pub key-heard : Pressed
unfolding after_all
key-heard =
    record {
      accepted = accepted;
      on = on-answer;
      first = heard (keyboard pressed ∷ []) past-on computed.first computed.first_block;
      off = off-answer;
      last = heard calls past_off computed.last computed.last_block;
      gone = heard (keyboard pressed ∷ cycle lent ∷ keyboard release ∷ cycle lent ∷ []) past-last computed.gone computed.gone-block;
    }
