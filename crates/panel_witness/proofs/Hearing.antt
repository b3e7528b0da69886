-- The stick is taken, so the claims of condition 3 speak of the two cycles that follow.
use mathlib.Core.Path.{◌≡◌, refl, ap, ◌∙◌, subst, subst⁻¹}
use mathlib.Core.Bool.{Bool, true, false, cond}
use mathlib.Core.List.{List, [], ◌∷◌, ◌++◌}
use native.Mathlib.Omega.{arith}
use Prim.Native.Nat.{ℕ, ◌≤◌, ◌<◌}
use lib.IntN.{ℤ}
use lib.Dec.{eqb}
use lib.Ieee.{Float, of_bits, le}
use Rattle.base_answer.specs.declared.Answer.TheVariants.{Taken}
use Rattle.base_bitstream.specs.Bits.{bits_of}
use Rattle.score_line.specs.declared.Line.{Line}
use Rattle.base_bitstream.specs.Bits as bitstream-bits
use Rattle.base_bitstream.specs.Fields as bitstream-fields
use Rattle.base_bitstream.specs.Filling as bitstream-filling
use Rattle.base_formats.specs.Format as formats-format
use Rattle.score_line.specs.LineFormat as score-line-format
use Rattle.score_line.specs.Reading as score-line-reading
use Rattle.score_reader.specs.Score as score-score
use Rattle.base_timebase.specs.inside.Range as timebase-range
use Rattle.base_timebase.specs.Time as timebase-time
use Rattle.score_reader.specs.Score.{Score, score_of}
use Rattle.player_model.specs.Lists.{All, here as some-here}
use Rattle.player_model.specs.Plain.{plain_start, answer_at, block_at}
use Rattle.player_model.specs.Calls.{stick, submit, cycle, Answer, one, numbered, lines_of, taken_of, is_zero, none, Transition, last_with, transition_of, trace_from, all_taken, after_all}
use Rattle.player_model.specs.Condition3.{in_time, InTime, AsPlain, PlainAlike}
use Rattle.player_model.specs.History.{history_from}
use Rattle.voices_source.specs.Voices.{written_voices}
use Rattle.panel.specs.declared.Panel.{Panel}
use Rattle.panel_claims.specs.Verdict.{here, taken, once, Verdict}
use Rattle.player_model.specs.Set.{starting_tempo}
use Rattle.player_model.specs.PlayerState.{Settings}
use Rattle.panel_claims.specs.Claims.{after_of, panel, first_in_use, Given, settings, Condition3}
use Rattle.panel_claims.proofs.Written.{condition-3}
use Rattle.panel_claims.proofs.Past.{placed_past}
use Rattle.panel_claims.proofs.Answers.{verdict-by-place}
use Rattle.panel_witness.specs.Growing.{ceiling, start, fixed, bytes, tree, line}
use Rattle.panel_witness.specs.Calls.{u, score, lent, calls, started, loaded, cycled, transitions, Heard}
use Rattle.panel_witness.proofs.Unchanged.{whole, first_says, SetsNothing, by-calls, as-fixed}
use Rattle.panel_witness.proofs.Sounding.{growing-sounds}
use Rattle.base_bitstream.specs.inside.Fields as bitstream-fields-inside
use Rattle.score_reader.specs.inside.Walk as score-score-inside

given : Given u tree
given = record { accepted = growing-sounds.accepted; whole = whole; set = _; first = first_says; there = some-here refl }

-- what the score holds, computed
abbrev read_as : Score
read_as = score_of (bits_of score)

-- the score read, computed
score-read : (read_as.answer ≡ Taken) × (read_as.lines ≡ line ∷ [])
unfolding bitstream-bits.bit bitstream-bits.field bitstream-bits.bits_of bitstream-bits.value_of bitstream-fields.room_for bitstream-fields-inside.written bitstream-filling.filled bitstream-filling.filled_up bitstream-filling.bytes_from bitstream-filling.bytes_of bitstream-fields.read_at formats-format.number_from formats-format.small score-line-format.in_range score-line-format.float score-line-format.number score-line-format.timed score-line-format.when score-line-format.label score-line-format.kind score-line-format.labelled score-line-format.body score-line-format.counted score-line-format.values score-line-format.after_time score-line-format.parts score-line-format.padded score-line-format.line score-line-reading.line_of score-line-reading.answer_of score-line-reading.refused_line score-line-reading.line_read score-line-reading.line_at score-line-reading.line_in_words score-line-reading.whole_run score-line-reading.keypad_line formats-format.bit_source formats-format.keypad_source score-score.lines_from score-score.ended score-score.counted score-score.score_of score-score-inside.first_of score-score-inside.next_of score-score-inside.walked score-score.whole_line score-score.opened score-score.unit_of timebase-range.checked timebase-time.finite_bits timebase-time.time_bits timebase-time.duration_bits timebase-time.tempo_bits timebase-time.ticks_in timebase-time.cycle_of timebase-time.cycle_in of_bits le
score-read = (refl, refl)

enough : 0 ≤ 0
enough = omega arith

room : 0 < 64
room = omega arith

-- its line fits: it is timed, its instrument is there, it is not late, and there is room
verdict : Verdict tree (placed_past u tree []) (submit stick score) (one 0 0)
unfolding history_from trace_from plain_start
verdict =
    once (taken (line ∷ []) (refl, score-read.0, score-read.1)
    (record { timed = λ q. refl; playable = here refl enough; early = refl; room = room }, tt))

taken-whole : (after_of started (submit stick score)).answers ≡ one 0 0
unfolding after_all
taken-whole = verdict-by-place u tree given [] (submit stick score) (one 0 0) verdict

-- no line comes by a cycle call
pub no_line : (given : List Answer) → taken_of ([] ∷ []) given ≡ []
no_line [] = refl
no_line (a ∷ told) = go (eqb a.number 0)
  where
    go : (b : Bool) → cond {A = List Line} b [] [] ++ [] ≡ []
    go true = refl
    go false = refl

stick-line : taken_of (lines_of (submit stick score)) (after_of started (submit stick score)).answers ≡ line ∷ []
stick-line = ap (taken_of (lines_of (submit stick score))) taken-whole ∙ ap (λ (ls : List Line). ls ++ []) score-read.1

lines-taken : all_taken transitions ≡ line ∷ []
unfolding all_taken trace_from
lines-taken =
    λ i. stick-line i ++ (no_line (after_of loaded (cycle lent)).answers i ++ (no_line (after_of cycled (cycle lent)).answers i ++ []))

-- none of the calls sets anything
unset : All SetsNothing transitions
unfolding trace_from
unset = (λ k. refl, (λ k. refl, (λ k. refl, tt)))

abbrev AllInTime : List Line → Float → (ℕ → Settings) → Type 0
AllInTime ls t s = All (InTime panel (written_voices tree) t s ls) transitions

abbrev AllAsPlain : List Line → Float → (ℕ → Settings) → Type 0
AllAsPlain ls t s = All (AsPlain panel (written_voices tree) t s ls) transitions

-- the line came before any cycle, and it is timed
in-time-fixed : AllInTime (line ∷ []) start (fixed ceiling)
unfolding trace_from
in-time-fixed = (
  subst⁻¹ (All (in_time panel (written_voices tree) start (fixed ceiling) (line ∷ []) none)) stick-line (tt, tt),
  (
    subst⁻¹ (All (in_time panel (written_voices tree) start (fixed ceiling) (line ∷ []) none)) (no_line (after_of loaded (cycle lent)).answers) tt,
    (subst⁻¹ (All (in_time panel (written_voices tree) start (fixed ceiling) (line ∷ []) (last_with (transition_of panel 0 none loaded (cycle lent))))) (no_line (after_of cycled (cycle lent)).answers) tt, tt),
  ),
)

in-time : AllInTime (line ∷ []) (starting_tempo (first_in_use u)) (settings u transitions)
in-time = by-calls bytes transitions unset (AllInTime (line ∷ [])) in-time-fixed

-- the claims of condition 3, of these calls
as_plain : AllAsPlain (line ∷ []) start (fixed ceiling)
unfolding Condition3 PlainAlike
as_plain =
    as-fixed bytes transitions unset (AllAsPlain (line ∷ [])) (subst (λ (ls : List Line). AllAsPlain ls (starting_tempo (first_in_use u)) (settings u transitions)) lines-taken
    (condition-3 u tree given calls (tt, (tt, (tt, tt))) (subst⁻¹ (λ (ls : List Line). AllInTime ls (starting_tempo (first_in_use u)) (settings u transitions)) lines-taken in-time)))

-- a cycle's answer and block are the plain player's
module _ {b : List ℤ} (m : Transition Panel) (a : AsPlain panel (written_voices tree) start (fixed ceiling) (line ∷ []) m) where
  sounds : numbered m.call ≡ true → answer_at (written_voices tree) start (fixed ceiling) (line ∷ []) m.cycles ≡ 0
      → block_at (written_voices tree) start (fixed ceiling) (line ∷ []) m.cycles ≡ b → (m.after.answers ≡ one 0 0) × (m.after.buffers.block ≡ b)
  sounds n e f =
      let x : m.after.answers ≡ one 0 0 = a.answer n ∙ ap (λ (y : ℕ). one y 0) e in
      (x, a.block n (ap is_zero x) ∙ f)

pub heard : Heard
unfolding trace_from
heard = record {
  taken-whole = taken-whole;
  lines = lines-taken;
  in-time = in-time;
  first = sounds _ as_plain.1.0 refl growing-sounds.first.0 growing-sounds.first.1;
  second = sounds _ as_plain.1.1.0 refl growing-sounds.second.0 growing-sounds.second.1;
}
