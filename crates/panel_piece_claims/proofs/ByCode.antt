-- A score that the feeder has put in order and feeds plays as the plain player that has it whole.
use mathlib.Core.Path.{◌≡◌, refl, sym, ap, ◌∙◌, subst, subst⁻¹}
use mathlib.Core.Bool.{Bool, true, false, cond, true≢false, false≢true}
use mathlib.Core.List.{List, [], ◌∷◌}
use Prim.Native.Nat.{ℕ, zero, suc, ◌+◌, ◌≤◌, ◌<◌, ◌^◌}
use native.Mathlib.Omega.{arith}
use lib.Dec.{T, leb, eqb}
use lib.ListN.{length, get_or}
use lib.Ieee.Fits.{and_l, and_r}
use borrow.Author.Tests.{leb-true, eqb-true}
use Rattle.base_answer.specs.Numbers.{number_of, is_taken}
use Rattle.base_answer.specs.declared.Answer.TheVariants.{Taken, NoTime}
use Rattle.score_decoder.proofs.Slots.{taken_is}
use Rattle.score_reader.specs.declared.ScoreRead.{ScoreRead}
use Rattle.score_line.specs.LineFormat.{valid}
use Rattle.score_line.specs.declared.When.{When}
use Rattle.score_line.specs.declared.When.TheVariants.{Timed, Untimed}
use Rattle.score_line.specs.declared.Line.{Line}
use Rattle.score_line_writer.specs.Writing.{line_words}
use Rattle.score_writer.specs.Writing.{most_lines}
use Rattle.score_writer.specs.Bytes.{all_valid}
use Rattle.score_writer.specs.Slots.{area_fault, area_lines}
use Rattle.score_writer.proofs.InSlots.{slots-back}
use Rattle.orchestra_syntax.specs.Tree.{Instrument}
use Rattle.voices_source.specs.Voices.{written_voices}
use Rattle.voices_compiled.specs.Voices.{VoiceState}
use Rattle.player_model.specs.Lists.{each, All}
use Rattle.player_model.specs.PlayerState.{Settings}
use Rattle.player_model.specs.Plain.{plain_start}
use Rattle.player_model.specs.Calls.{keypad, has_time, Answer, one, none}
use Rattle.player_model.specs.Condition3.{timed, AsPlain}
use Rattle.player_model.specs.Set.{starting_tempo, in_force, set_at}
use Rattle.player_model.specs.History.{History}
use Rattle.player_model.proofs.Lists.{by-test, cond-true, cond-false, all_map}
use Rattle.player_model.proofs.BySettings.{Agree}
use Rattle.base_sorting.specs.Sorted.{Rising}
use Rattle.base_sorting.proofs.Laws.{rising}
use Rattle.panel.specs.Calls.{submit_of}
use Rattle.code_loader_claims.specs.Claims.{StandsFor}
use Rattle.panel_claims.specs.Verdict.{Playable, faulty, unplayable, most_lines as most_wait}
use Rattle.panel_claims.specs.Fresh.{Setup}
use Rattle.panel_claims.specs.Claims.{after_of, core_after, panel, Given, first_in_use, fresh}
use Rattle.panel_claims.proofs.Fitting.{Judged, yes-so, no-so, event-judged}
use Rattle.panel_claims.proofs.Answers.{at-entrance-given}
use Rattle.panel_claims.proofs.Past.{own, stands, fresh-invariant, fresh-own}
use Rattle.panel_feeder.specs.Order.{numbers, line_in, ranks_from, ranks_of, order_of}
use Rattle.panel_feeder.specs.Judging.{answer_to, first_refused, judged_of, prepared_of}
use Rattle.panel_piece_claims.specs.Playing.{Round, played_to, Piece, feeder, seen_of, settings_in, calls_in, NeverTooMany, FedByCode, TooManyTold}
use Rattle.panel_piece_claims.proofs.Ordering.{line_of, Rank, rank-line, sorted_all, ranks-all, order_same}
use Rattle.panel_piece_claims.proofs.Feeding.{Valid, handing, read_whole, read-itself}
use Rattle.panel_piece_claims.proofs.Whole.{in-own-order, due-written, few-by-place, begins}
use Rattle.panel_piece_claims.proofs.Playing.{Comes, Performs, performs, full_at}

-- ---- what it means that the feeder has put lines in order

never : {A : Type 0} {b : Bool} → b ≡ true → b ≡ false → A
never h k = absurd (true≢false (sym h ∙ k))

abbrev taken : ScoreRead → Bool
taken x = is_taken x.answer

record InOrder (u : Setup) (area : List ℕ) (n : ℕ) : Type 0 where
  few : n ≤ most_lines
  whole : (area_fault area n 0).answer ≡ Taken
  each-taken : is_taken (first_refused area n 0 (fresh u)).answer ≡ true

was-judged : (u : Setup) (area : List ℕ) (n places room : ℕ) → (prepared_of area n places room (fresh u)).answer ≡ Taken → is_taken (judged_of area n (fresh u)).answer ≡ true
unfolding prepared_of
was-judged u area n places room e =
    by-test (is_taken (judged_of area n (fresh u)).answer) (λ h. h)
    (λ h. never (ap is_taken (sym (ap (λ (x : ScoreRead). x.answer) (cond-false _ _ h)) ∙ e)) h)

was-in-order : (u : Setup) (area : List ℕ) (n : ℕ) → is_taken (judged_of area n (fresh u)).answer ≡ true → InOrder u area n
unfolding judged_of
was-in-order u area n e =
    by-test (is_taken (area_fault area n 0).answer)
    (λ h. by-test (leb n most_lines)
    (λ k. record {
      few = leb-true n most_lines k;
      whole = taken_is (area_fault area n 0).answer h;
      each-taken = ap taken (sym (cond-true _ _ h ∙ cond-true _ _ k)) ∙ e;
    })
    (λ k. never (ap taken (sym (cond-true _ _ h ∙ cond-false _ _ k)) ∙ e) refl))
    (λ h. never (ap taken (sym (cond-false _ _ h)) ∙ e) h)

-- ---- a line that a fresh panel takes is playable: refusal 4 is known before the first cycle

has-timed : (w : When) → has_time w ≡ true → timed w
has-timed (Timed late t) h = tt
has-timed Untimed h = absurd (false≢true h)

first_number : List Answer → ℕ
first_number [] = 0
first_number (a ∷ given) = a.number

module _ (u : Setup) (is : List Instrument) (g : Given u is) where
  answers-four : (l : Line) → (after_of (fresh u) (handing l)).answers ≡ one 4 0 → is_taken (submit_of (fresh u).core keypad (line_words l)).answer ≡ false
  unfolding after_of core_after first_number
  answers-four l e = ap (λ (given : List Answer). eqb (first_number given) 0) e

  fresh-takes : (l : Line) → T (valid l) → is_taken (submit_of (fresh u).core keypad (line_words l)).answer ≡ true → Playable is l.count l.event
  unfolding plain_start
  fresh-takes l ok h = go (event-judged is l.count l.event)
    where
      four : (Playable is l.count l.event → ⊥) → (after_of (fresh u) (handing l)).answers ≡ one 4 0
      four bad =
          let k = fresh-invariant u is g in
          let o = fresh-own u is g in
          at-entrance-given is (fresh u) (subst⁻¹ (StandsFor is) k.has (stands u is g)) k.long keypad (line_words l) 4 0
          (faulty [] l [] (ap (λ (h : History VoiceState). h.holds.plays.ended) o, read_whole l ok, read-itself l ok) tt (unplayable (λ u. absurd (false≢true u)) bad))

      go : {b : Bool} → Judged (Playable is l.count l.event) b → Playable is l.count l.event
      go (yes-so good) = good
      go (no-so bad) = never h (answers-four l (four bad))

  one-valid : (area : List ℕ) (i : ℕ) → T (valid (line_in area i)) → is_taken (answer_to area i (fresh u)) ≡ true → Valid is (line_in area i)
  unfolding answer_to
  one-valid area i ok h =
      by-test (has_time (line_in area i).when)
      (λ t. record { in_range = ok; timely = has-timed (line_in area i).when t; playable = fresh-takes (line_in area i) ok (ap is_taken (sym (cond-true _ _ t)) ∙ h) })
      (λ t. absurd (false≢true (ap is_taken (sym (cond-false _ _ t)) ∙ h)))

  all-valid : (area : List ℕ) (n i : ℕ) → T (all_valid (area_lines area n i)) → is_taken (first_refused area n i (fresh u)).answer ≡ true → All (Valid is) (area_lines area n i)
  unfolding first_refused area_lines all_valid
  all-valid area zero i ok h = tt
  all-valid area (suc n) i ok h =
      by-test (is_taken (answer_to area i (fresh u)))
      (λ t. (
        one-valid area i (and_l (valid (line_in area i)) (all_valid (area_lines area n (suc i))) ok) t,
        all-valid area n (suc i) (and_r (valid (line_in area i)) (all_valid (area_lines area n (suc i))) ok) (ap taken (sym (cond-true _ _ t)) ∙ h),
      ))
      (λ t. never (ap taken (sym (cond-false _ _ t)) ∙ h) t)

-- ---- what holds of all lines holds of all ranks

module _ (area : List ℕ) (P : Line → Type 0) where
  by-ranks : (n i : ℕ) → i + n ≤ numbers → All P (area_lines area n i) → All (λ (k : ℕ). P (line_of area k)) (ranks_from area n i)
  unfolding ranks_from area_lines
  by-ranks zero i h a = tt
  by-ranks (suc n) i h a = (subst⁻¹ P (rank-line area i (omega arith)) a.0, by-ranks n (suc i) (omega arith) a.1)

  by_order : (n : ℕ) → n ≤ numbers → All P (area_lines area n 0) → All (λ (k : ℕ). P (line_of area k)) (order_of area n)
  unfolding order_of ranks_of
  by_order n h a = sorted_all area (λ (k : ℕ). P (line_of area k)) (ranks_from area n 0) (by-ranks n 0 (omega arith) a)

  of-lines : (ks : List ℕ) → All (λ (k : ℕ). P (line_of area k)) ks → All P (each (line_of area) ks)
  unfolding each
  of-lines [] a = tt
  of-lines (k ∷ ks) a = (a.0, of-lines ks a.1)

-- ---- the theorems

module _ (u : Setup) (is : List Instrument) (area : List ℕ) (n : ℕ) (d : Piece u is area n) where
  abbrev g : Given u is
  g = d.given

  abbrev score : List Line
  score = area_lines area n 0

  abbrev xs : List Line
  xs = each (line_of area) (order_of area n)

  o : InOrder u area n
  o = was-in-order u area n (was-judged u area n d.places d.room d.prepared)

  few : n ≤ numbers
  few = omega (arith, o.few)

  ok : All (Valid is) score
  ok = all-valid u is g area n 0 (slots-back area n 0 d.words o.whole).0 o.each-taken

  ranks-ok : All (λ (k : ℕ). Valid is (line_of area k)) (order_of area n)
  ranks-ok = by_order area (Valid is) n few ok

  ok' : All (Valid is) xs
  ok' = of-lines area (Valid is) (order_of area n) ranks-ok

  rises : Rising (order_of area n)
  unfolding order_of ranks_of
  rises = rising (ranks_from area n 0)

  ranked : All (Rank area 0) (order_of area n)
  unfolding order_of ranks_of
  ranked = sorted_all area (Rank area 0) (ranks_from area n 0) (ranks-all area n 0 (omega (arith, few)))

  timed-ranks : All (λ (k : ℕ). timed (line_of area k).when) (order_of area n)
  timed-ranks = all_map _ _ (λ k h. h.timely) (order_of area n) ranks-ok

  module _ (rounds : List Round) (seldom : NeverTooMany (written_voices is) (starting_tempo (first_in_use u)) (settings_in u area n rounds) score (length rounds)) where
    abbrev st : ℕ → Settings
    st = settings_in u area n rounds

    agrees : Agree u.chosen st 0 (own (fresh u)).set (calls_in (seen_of u area n rounds))
    unfolding Agree
    agrees m j e =
        subst⁻¹ (λ (i : ℕ). st i ≡ st j) e (let z : 0 + j ≡ j = omega arith in ap st z)
        ∙ ap (λ (h : History VoiceState). in_force u.chosen (set_at h.set (calls_in (seen_of u area n rounds)) j)) (sym (fresh-own u is g))

    abbrev P : Type 0
    P = Performs u is g st xs area (order_of area n) rises ranked timed-ranks (seen_of u area n rounds) (0 + length rounds)
        (played_to panel (feeder area n) (fresh u) 0 rounds)

    plays-so : P
    plays-so =
        performs u is g st xs area (order_of area n) rises ranked timed-ranks rounds 0
        (λ j a b. few-by-place u is g st score xs ok ok' (order_same area n few) j (seldom j (omega arith))) none (fresh u) 0
        (record { kept = fresh-invariant u is g; stand = begins u is g st score xs ok ok' (order_same area n few); ok = ok' }) agrees

pub fed-by-code : FedByCode
unfolding FedByCode
fed-by-code u is area n d rounds seldom =
    let x = plays-so u is area n d rounds seldom in (
      x.told,
      all_map _ _ (in-own-order u is d.given (settings_in u area n rounds) (area_lines area n 0) (each (line_of area) (order_of area n)) (ok u is area n d) (ok' u is area n d)
          (order_same area n (few u is area n d))) (calls_in (seen_of u area n rounds)) x.good,
    )

pub too-many-told : TooManyTold
unfolding TooManyTold
too-many-told u is area n d rounds seldom runs many =
    let x = plays-so u is area n d rounds seldom in
    let w = due-written u is d.given (settings_in u area n rounds) (area_lines area n 0) (each (line_of area) (order_of area n)) (ok u is area n d) (ok' u is area n d)
    (order_same area n (few u is area n d)) (length rounds) in
    let r = played_to panel (feeder area n) (fresh u) 0 rounds in
    let z : 0 + length rounds ≡ length rounds = omega arith in
    full_at u is d.given (settings_in u area n rounds) (each (line_of area) (order_of area n)) area (order_of area n) (rises u is area n d) (ranked u is area n d) (timed-ranks u is area n d)
    (length rounds) r.player r.at (subst (λ (k : ℕ). Comes u is d.given (settings_in u area n rounds) (each (line_of area) (order_of area n)) area (order_of area n) (rises u is area n d) (ranked u is area n d) (timed-ranks u is area n d) k r.player r.at) z x.come)
    (w.1 ∙ runs) (subst⁻¹ (λ (ls : List Line). most_wait < length ls) w.0 many)
