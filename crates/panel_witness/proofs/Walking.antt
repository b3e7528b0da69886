-- The richer piece by the panel's own calls: each answer by its history, the cycles by condition 3.
use mathlib.Core.Path.{◌≡◌, refl, ap, ◌∙◌, subst, subst⁻¹}
use mathlib.Core.Bool.{true, cond, ◌&&◌}
use mathlib.Core.List.{List, [], ◌∷◌, ◌++◌}
use native.Mathlib.Omega.{arith}
use Prim.Native.Nat.{ℕ, zero, suc, ◌+◌, ◌≤◌}
use lib.IntN.{ℤ}
use lib.ListN.{replicate}
use lib.Ieee.{Float, of_bits, of_int, add, mul, round, lt, le, eq, ne}
use Rattle.orchestra_syntax.specs.Names.{named, named_by}
use Rattle.orchestra_syntax.specs.inside.Placed.{place_from, put_in, put}
use Rattle.orchestra_semantics.specs.inside.Placed.{value, assigned, outputs, pass, fresh as fresh_values, birth, k_pass, a_passes, cycle as note_cycle}
use Rattle.player_model.specs.Lists.{filter, fold, each, All, here as some-here}
use Rattle.player_model.specs.Cycle.{is_due, insert, ordered, any_end, last_tempo, limited, joined_by, goes_on, born, started, controlled_by, controlled, after_messages, run_from, run_all}
use Rattle.player_model.specs.PlayerState.{Settings, Counts, behind, with_messages, due_at, later_than, ends_by, answer_of, started_of, notes_to_run, rendered_of, block_of, played, cycled}
use Rattle.player_model.specs.Plain.{plain_start, plain_at, answer_at, block_at}
use Rattle.base_float32.specs.Limit.{held, sample_of}
use Rattle.base_float32.specs.Builtins.{truth}
use Rattle.base_timebase.specs.Time.{ticks_in, cycle_of, cycle_in}
use Rattle.voices_compiled.specs.Voices as code
use Rattle.orchestra_semantics.specs.Meaning.{silent, instrument_of}
use Rattle.voices_resolved.specs.Tree.{imports_of, tree_voices}
use Rattle.voices_source.specs.Voices.{written_voices}
use Rattle.score_line.specs.declared.Line.{Line}
use Rattle.player_model.specs.Calls.{Call, stick, unit, keypad, submit, cycle, Answer, one, numbered, lines_of, taken_of, is_zero, Last, latest, none, Transition, trace_from, all_taken, after_all}
use Rattle.player_model.specs.Condition3.{in_time, InTime, AsPlain, PlainAlike}
use Rattle.player_model.specs.History.{History, nowhere, unbegun, with_cycle, history_from}
use Rattle.panel.specs.declared.Panel.{Panel}
use Rattle.panel_claims.specs.Verdict.{here, there, taken, plays, once, Verdict, AllFit}
use Rattle.settings_records.specs.declared.InUse.{InUse}
use Rattle.player_model.specs.Set.{starting_tempo}
use Rattle.panel_claims.specs.Claims.{after_of, panel, first_in_use, fresh, panel_after, Given, settings, Condition3}
use Rattle.panel_claims.proofs.Written.{condition-3}
use Rattle.panel_claims.proofs.Past.{placed_past}
use Rattle.panel_claims.proofs.Answers.{verdict-by-place}
use Rattle.voices_compiled.specs.Voices.{VoiceState}
use Rattle.panel_witness.specs.Growing.{ceiling, chosen, set_at_start, start, fixed}
use Rattle.panel_witness.specs.Calls.{lent}
use Rattle.panel_witness.specs.Rich.{bytes, tree, u, rest, control, end, on_stick, in_unit, on_keypad, before, lines, calls, transitions, p1, p2, p3, p4, Walked}
use Rattle.panel_witness.proofs.Unchanged.{whole, first_says, kept-is, SetsNothing, by-calls, as-fixed}
use Rattle.panel_witness.proofs.Hearing.{no_line}
use Rattle.panel_witness.proofs.Rich.{rich}

given : Given u tree
given = record { accepted = rich.accepted; whole = whole; set = _; first = first_says; there = some-here refl }

-- what a call answers, by the history before it
answered : (cs : List Call) (c : Call) {h : History VoiceState} → placed_past u tree cs ≡ h → Verdict tree h c (one 0 0)
    → (after_of (panel_after u tree cs) c).answers ≡ one 0 0
answered cs c e v = verdict-by-place u tree given cs c (one 0 0) (subst⁻¹ (λ (h : History VoiceState). Verdict tree h c (one 0 0)) e v)

-- ---- the stick

none_needed : 0 ≤ 0
none_needed = omega arith

one_field : 1 ≤ 1
one_field = omega arith

other_name : ◌≡◌ {A = ℕ} 1 6 → ⊥
other_name e = omega arith

-- the rests fit as long as there is room
rests-fit : (n k : ℕ) → n + k ≤ 64 → AllFit tree stick nowhere k (replicate n rest)
rests-fit zero k h = tt
rests-fit (suc n) k h = (
  record { timed = λ q. refl; playable = there other_name (here refl none_needed); early = refl; room = omega arith },
  rests-fit n (suc k) (omega arith),
)

on-stick : Verdict tree (placed_past u tree []) (submit stick on_stick) (one 0 0)
unfolding history_from trace_from plain_start
on-stick =
    once (taken before (refl, rich.stick.0, rich.stick.1)
    (record { timed = λ q. refl; playable = here refl one_field; early = refl; room = omega arith }, rests-fit 16 1 (omega arith)))

stick-answer : (after_of (fresh u) (submit stick on_stick)).answers ≡ one 0 0
unfolding after_all
stick-answer = answered [] (submit stick on_stick) refl on-stick

stick-lines : taken_of (lines_of (submit stick on_stick)) (after_of (fresh u) (submit stick on_stick)).answers ≡ before
stick-lines = ap (taken_of (lines_of (submit stick on_stick))) stick-answer ∙ ap (λ (ls : List Line). ls ++ []) rich.stick.1

-- ---- histories

after-stick : History VoiceState
after-stick = record { holds = with_messages [] (behind before (plain_start start [])); reached = nowhere; set = set_at_start ceiling }

after_first : History VoiceState
after_first = with_cycle (tree_voices tree) chosen after-stick

after-unit : History VoiceState
after-unit = record { holds = with_messages [] (behind (control ∷ []) after_first.holds); reached = after_first.reached; set = after_first.set }

-- cycle 0 plays; then nothing waits, and the control line and the end fit
computed : Verdict tree after-stick (cycle lent) (one 0 0) × Verdict tree after_first (submit unit in_unit) (one 0 0) × Verdict tree after-unit (submit keypad on_keypad) (one 0 0)
unfolding after-unit after_first after-stick behind with_messages answer_at answer_of block_at block_of limited rendered_of notes_to_run started_of after_messages run_all run_from started controlled due_at later_than plain_at cycled plain_start starting_tempo ends_by any_end played goes_on last_tempo cycle_in cycle_of filter fold each is_due insert ordered joined_by born controlled_by ticks_in tree_voices instrument_of imports_of silent sample_of held note_cycle k_pass a_passes pass outputs assigned value fresh_values birth put put_in named_by named place_from add mul round of_bits of_int lt le eq code.named truth ne
computed = (
  once (plays refl refl refl),
  once (taken (control ∷ []) (refl, rich.unit.0, rich.unit.1) (record { timed = λ q. refl; playable = tt; early = refl; room = omega arith }, tt)),
  once (taken (end ∷ []) (refl, rich.keypad.0, rich.keypad.1) (record { timed = λ q. refl; playable = tt; early = refl; room = omega arith }, tt)),
)

past-stick : placed_past u tree (submit stick on_stick ∷ []) ≡ after-stick
unfolding history_from trace_from after-stick
past-stick = λ i.
    let k : InUse = kept-is bytes i in
    record {
      holds = with_messages (cond (is_zero (stick-answer i)) [] []) (behind (stick-lines i) (plain_start (starting_tempo k) []));
      reached = nowhere;
      set = cond (is_zero (stick-answer i)) k k;
    }

first-answer : (after_of p1 (cycle lent)).answers ≡ one 0 0
unfolding after_all
first-answer = answered (submit stick on_stick ∷ []) (cycle lent) past-stick computed.0

past_first : placed_past u tree (submit stick on_stick ∷ cycle lent ∷ []) ≡ after_first
unfolding history_from trace_from after_first after-stick
past_first = ap (with_cycle (tree_voices tree) chosen) past-stick

-- ---- the unit

unit-answer : (after_of p2 (submit unit in_unit)).answers ≡ one 0 0
unfolding after_all
unit-answer = answered (submit stick on_stick ∷ cycle lent ∷ []) (submit unit in_unit) past_first computed.1

unit_lines : taken_of (lines_of (submit unit in_unit)) (after_of p2 (submit unit in_unit)).answers ≡ control ∷ []
unit_lines = ap (taken_of (lines_of (submit unit in_unit))) unit-answer ∙ ap (λ (ls : List Line). ls ++ []) rich.unit.1

past-unit : placed_past u tree (submit stick on_stick ∷ cycle lent ∷ submit unit in_unit ∷ []) ≡ after-unit
unfolding history_from trace_from after-unit after_first after-stick
past-unit = λ i.
    let h : History VoiceState = past_first i in
    record {
      holds = with_messages (cond (is_zero (unit-answer i)) [] []) (behind (unit_lines i) h.holds);
      reached = h.reached;
      set = cond (is_zero (unit-answer i)) h.set h.set;
    }

-- ---- the keypad

keypad-answer : (after_of p3 (submit keypad on_keypad)).answers ≡ one 0 0
unfolding after_all
keypad-answer = answered (submit stick on_stick ∷ cycle lent ∷ submit unit in_unit ∷ []) (submit keypad on_keypad) past-unit computed.2

keypad-lines : taken_of (lines_of (submit keypad on_keypad)) (after_of p3 (submit keypad on_keypad)).answers ≡ end ∷ []
keypad-lines = ap (taken_of (lines_of (submit keypad on_keypad))) keypad-answer ∙ ap (λ (ls : List Line). ls ++ []) rich.keypad.1

-- ---- condition 3's premise

p5 : Panel
p5 = (after_of p4 (cycle lent)).player

lines-taken : all_taken transitions ≡ lines
unfolding all_taken trace_from p5
lines-taken =
    λ i. stick-lines i ++ (no_line (after_of p1 (cycle lent)).answers i ++ (unit_lines i ++ (keypad-lines i
    ++ (no_line (after_of p4 (cycle lent)).answers i ++ (no_line (after_of p5 (cycle lent)).answers i ++ [])))))

abbrev Timely : Last → List Line → Type 0
Timely z ls = All (in_time panel (written_voices tree) start (fixed ceiling) lines z) ls

rests-timely : (n : ℕ) → Timely none (replicate n rest)
rests-timely zero = tt
rests-timely (suc n) = (tt, rests-timely n)

-- the last cycle when the unit and the keypad line come
abbrev last_of : Panel → ℕ → Last → Last
last_of p k z = cond (numbered (cycle lent) && is_zero (after_of p (cycle lent)).answers) (latest k) z

last-is : last_of p1 0 none ≡ latest 0
last-is = ap (λ (a : List Answer). cond (numbered (cycle lent) && is_zero a) (latest 0) none) first-answer

none-timely : (z : Last) (given : List Answer) → Timely z (taken_of ([] ∷ []) given)
none-timely z given = subst⁻¹ (Timely z) (no_line given) tt

-- none of the calls sets anything
unset : All SetsNothing transitions
unfolding trace_from
unset = (λ k. refl, (λ k. refl, (λ k. refl, (λ k. refl, (λ k. refl, (λ k. refl, tt))))))

abbrev AllInTime : List Line → Float → (ℕ → Settings) → Type 0
AllInTime ls t s = All (InTime panel (written_voices tree) t s ls) transitions

abbrev AllAsPlain : List Line → Float → (ℕ → Settings) → Type 0
AllAsPlain ls t s = All (AsPlain panel (written_voices tree) t s ls) transitions

in-time-fixed : AllInTime lines start (fixed ceiling)
unfolding trace_from p5
in-time-fixed = (
  subst⁻¹ (Timely none) stick-lines (tt, rests-timely 16),
  (
    none-timely none (after_of p1 (cycle lent)).answers,
    (
      subst⁻¹ (λ (z : Last). Timely z (taken_of (lines_of (submit unit in_unit)) (after_of p2 (submit unit in_unit)).answers)) last-is
          (subst⁻¹ (Timely (latest 0)) unit_lines (rich.in_time.0, tt)),
      (
        subst⁻¹ (λ (z : Last). Timely z (taken_of (lines_of (submit keypad on_keypad)) (after_of p3 (submit keypad on_keypad)).answers)) last-is
            (subst⁻¹ (Timely (latest 0)) keypad-lines (rich.in_time.1, tt)),
        (none-timely (last_of p1 0 none) (after_of p4 (cycle lent)).answers, (none-timely (last_of p4 1 (last_of p1 0 none)) (after_of p5 (cycle lent)).answers, tt)),
      ),
    ),
  ),
)

in-time : AllInTime lines (starting_tempo (first_in_use u)) (settings u transitions)
in-time = by-calls bytes transitions unset (AllInTime lines) in-time-fixed

as_plain : AllAsPlain lines start (fixed ceiling)
unfolding Condition3 PlainAlike
as_plain =
    as-fixed bytes transitions unset (AllAsPlain lines) (subst (λ (ls : List Line). AllAsPlain ls (starting_tempo (first_in_use u)) (settings u transitions)) lines-taken
    (condition-3 u tree given calls (tt, (tt, (tt, (tt, (tt, (tt, tt)))))) (subst⁻¹ (λ (ls : List Line). AllInTime ls (starting_tempo (first_in_use u)) (settings u transitions)) lines-taken in-time)))

-- ---- what is heard

module _ (m : Transition Panel) (a : AsPlain panel (written_voices tree) start (fixed ceiling) lines m) where
  answers : (n : ℕ) → numbered m.call ≡ true → answer_at (written_voices tree) start (fixed ceiling) lines m.cycles ≡ n → m.after.answers ≡ one n 0
  answers n q e = a.answer q ∙ ap (λ (y : ℕ). one y 0) e

  sounds : {b : List ℤ} → numbered m.call ≡ true → answer_at (written_voices tree) start (fixed ceiling) lines m.cycles ≡ 0
      → block_at (written_voices tree) start (fixed ceiling) lines m.cycles ≡ b → m.after.buffers.block ≡ b
  sounds q e f = a.block q (ap is_zero (answers 0 q e)) ∙ f

pub walked : Walked
unfolding trace_from p5 each
walked =
    record {
      taken = lines-taken;
      in_time = in-time;
      answers = λ i.
          stick-answer i ∷ first-answer i ∷ unit-answer i ∷ keypad-answer i
          ∷ answers _ as_plain.1.1.1.1.0 0 refl rich.second.0 i
          ∷ answers _ as_plain.1.1.1.1.1.0 9 refl rich.over i
          ∷ [];
      first = sounds _ as_plain.1.0 refl rich.first.0 rich.first.1;
      missed = ap (λ (c : Counts). c.missed) as_plain.1.0.counts ∙ rich.missed;
      second = sounds _ as_plain.1.1.1.1.0 refl rich.second.0 rich.second.1;
    }
