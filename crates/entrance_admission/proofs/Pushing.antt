-- What is handed over, pushed line by line.
use mathlib.Core.Path.{◌≡◌, refl, sym, ap, ◌∙◌}
use mathlib.Core.Bool.{Bool, true, false, not, ◌&&◌, cond}
use mathlib.Core.List.{List, [], ◌∷◌}
use Prim.Native.Nat.{ℕ, zero, suc, ◌+◌, ◌≤◌, ◌<◌, min}
use native.Mathlib.Omega.{arith}
use lib.ListN.{length, take, drop, get_or, length-take}
use lib.Seq.{drop-cons, drop-nil, get_or-take, take-append_seam}
use Rattle.base_laws.proofs.Lists.{take_min}
use Rattle.base_answer.specs.Numbers.{is_taken}
use Rattle.base_answer.specs.declared.Answer.TheVariants as answer
use Rattle.score_line.specs.declared.Line.{Line}
use Rattle.score_reader.specs.Score.{Score}
use Rattle.player_model.specs.Calls.{unit, must_be_timed, has_time, reads}
use Rattle.player_model.proofs.Lists.{cond-true, cond-false}
use Rattle.player_queue.specs.Admission.{admitted, pushed}
use Rattle.std.specs.Prelude.{Option}
use Rattle.player_queue.specs.declared.Queue.{Queue}
use Rattle.base_answer.specs.declared.Answered.{Answered}
use Rattle.player_queue.proofs.Admission.{taken-pushed, taken-room}
use Rattle.code_program.specs.InstrumentTable.{field_count_in}
use Rattle.code_program.specs.declared.Instrument.{Instrument}
use Rattle.entrance_readers.specs.Entrances.{most_lines_read, entrance_read_of, score_in}
use Rattle.entrance_admission.specs.Submission.{line_admitted, admitted_all, submitted_in}
use Rattle.entrance_readers.specs.declared.EntranceRead.{EntranceRead}
use Rattle.base_answer.specs.declared.AnsweredLine.{AnsweredLine}
use Rattle.entrance_readers.proofs.Gathering.{blank}

-- ---- one line

module _ (timed : Bool) (table : List Instrument) (q : Queue) (l : Line) (b : Bool) (e : b ≡ (timed && not (has_time l.when))) where
  pub line-untimed : b ≡ true → record { left = q; answer = answer.NoTime } ≡ line_admitted timed table q l
  unfolding line_admitted
  line-untimed t = sym (cond-true _ _ (sym e ∙ t))

  pub line-admitted : b ≡ false → (f : Option ℕ) → f ≡ field_count_in table l.event → (a : Answered Queue) → a ≡ admitted q l f → a ≡ line_admitted timed table q l
  unfolding line_admitted
  line-admitted t f ef a ea = ea ∙ ap (admitted q l) ef ∙ sym (cond-false _ _ (sym e ∙ t))

-- ---- all lines

nothing_left : (i : ℕ) (ls : List Line) → length ls ≤ i → drop i ls ≡ []
nothing_left i [] h = drop-nil i
nothing_left zero (l ∷ ls) h = absurd (omega arith)
nothing_left (suc i) (l ∷ ls) h = nothing_left i ls (omega arith)

module _ (timed : Bool) (table : List Instrument) (old : Queue) where
  module _ (ls : List Line) (q : Queue) (i : ℕ) (h : i < length ls) (d : Line) (a : Answered Queue) (e : a ≡ line_admitted timed table q (get_or ls i d)) where
    -- what is left to push, from its first line
    front : admitted_all timed table old q i (drop i ls)
        ≡ cond (is_taken a.answer) (admitted_all timed table old a.left (i + 1) (drop (i + 1) ls)) (record { left = old; answer = a.answer; line = i })
    unfolding admitted_all
    front =
        ap (admitted_all timed table old q i) (drop-cons ls i d h)
        ∙ ap (λ (x : Answered Queue). cond (is_taken x.answer) (admitted_all timed table old x.left (i + 1) (drop (suc i) ls)) (record { left = old; answer = x.answer; line = i })) (sym e)
        ∙ (let one : suc i ≡ i + 1 = omega arith in
        ap (λ (n : ℕ). cond (is_taken a.answer) (admitted_all timed table old a.left (i + 1) (drop n ls)) (record { left = old; answer = a.answer; line = i })) one)

    push-next : is_taken a.answer ≡ true → admitted_all timed table old q i (drop i ls) ≡ admitted_all timed table old a.left (i + 1) (drop (i + 1) ls)
    push-next t = front ∙ cond-true _ _ t

    push-off : is_taken a.answer ≡ false → admitted_all timed table old q i (drop i ls) ≡ record { left = old; answer = a.answer; line = i }
    push-off t = front ∙ cond-false _ _ t

  push-end : (ls : List Line) (q : Queue) (i : ℕ) → length ls ≤ i → admitted_all timed table old q i (drop i ls) ≡ record { left = q; answer = answer.Taken; line = 0 }
  unfolding admitted_all
  push-end ls q i h = ap (admitted_all timed table old q i) (nothing_left i ls h)

  -- what is left of the first m lines to push gives what all of them give
  pub record Pushing (lines : List Line) (m : ℕ) (q : Queue) (i : ℕ) : Type 0 where
    pub small : i ≤ m
    pub wide : m ≤ length lines
    pub same : admitted_all timed table old q i (drop i (take m lines)) ≡ admitted_all timed table old old 0 (take m lines)

  module _ (lines : List Line) (m : ℕ) where
    pub pushing-none : m ≤ length lines → Pushing lines m old 0
    pushing-none w = record { small = omega arith; wide = w; same = refl }

    module _ (q : Queue) (i : ℕ) (h : i < m) (p : Pushing lines m q i) (d : Line) (a : Answered Queue) (e : a ≡ line_admitted timed table q (get_or lines i d)) where
      in-front : i < length (take m lines)
      in-front = omega (arith, length-take m lines, p.wide)

      is-line : a ≡ line_admitted timed table q (get_or (take m lines) i d)
      is-line = e ∙ ap (line_admitted timed table q) (sym (get_or-take m lines i d h))

      pub pushing-next : is_taken a.answer ≡ true → Pushing lines m a.left (i + 1)
      pushing-next t =
          record {
            small = omega arith;
            wide = p.wide;
            same = sym (push-next (take m lines) q i in-front d a is-line t) ∙ p.same;
          }

      pub pushing-off : is_taken a.answer ≡ false → record { left = old; answer = a.answer; line = i } ≡ admitted_all timed table old old 0 (take m lines)
      pushing-off t = sym (push-off (take m lines) q i in-front d a is-line t) ∙ p.same

    pub pushing-end : (q : Queue) (i : ℕ) → m ≤ i → Pushing lines m q i → record { left = q; answer = answer.Taken; line = 0 } ≡ admitted_all timed table old old 0 (take m lines)
    pushing-end q i h p = sym (push-end (take m lines) q i (omega (arith, length-take m lines))) ∙ p.same

  -- a count past the array is taken as the array's length
  pub all-pushed : (lines : List Line) (count m : ℕ) → m ≡ min count most_lines_read → length lines ≡ most_lines_read
      → (x : AnsweredLine Queue) → x ≡ admitted_all timed table old old 0 (take m lines) → x ≡ admitted_all timed table old old 0 (take count lines)
  all-pushed lines count m e l x q =
      q ∙ ap (admitted_all timed table old old 0) (ap (λ (k : ℕ). take k lines) e ∙ take_min lines count most_lines_read l)

  -- ---- 65 lines tell as much as all

  line-room : (q : Queue) (l : Line) → is_taken (line_admitted timed table q l).answer ≡ true → (q.count < 64) × ((line_admitted timed table q l).left.count ≡ q.count + 1)
  unfolding line_admitted pushed
  line-room q l = go (timed && not (has_time l.when))
    where
      f : Option ℕ
      f = field_count_in table l.event

      grows : is_taken (admitted q l f).answer ≡ true → (admitted q l f).left.count ≡ q.count + 1
      grows t = ap (λ (x : Queue). x.count) (taken-pushed q l f t)

      go : (b : Bool) → is_taken (cond {A = Answered Queue} b (record { left = q; answer = answer.NoTime }) (admitted q l f)).answer ≡ true
          → (q.count < 64) × ((cond {A = Answered Queue} b (record { left = q; answer = answer.NoTime }) (admitted q l f)).left.count ≡ q.count + 1)
      go true t = absurd (let z : ◌≡◌ {A = ℕ} 0 1 = cc in omega arith)
      go false t = (taken-room q l f t, grows t)

  enough : (k : ℕ) (ls : List Line) (q : Queue) (i : ℕ) → 64 ≤ q.count + k → admitted_all timed table old q i (take (suc k) ls) ≡ admitted_all timed table old q i ls
  unfolding admitted_all
  enough k [] q i h = refl
  enough zero (l ∷ ls) q i h = go (line_admitted timed table q l) (is_taken (line_admitted timed table q l).answer) refl
    where
      go : (a : Answered Queue) (b : Bool) → is_taken (line_admitted timed table q l).answer ≡ b
          → cond b (admitted_all timed table old a.left (i + 1) []) (record { left = old; answer = a.answer; line = i })
          ≡ cond b (admitted_all timed table old a.left (i + 1) ls) (record { left = old; answer = a.answer; line = i })
      go a true t = absurd (let r = (line-room q l t).0 in omega (arith, h, r))
      go a false t = refl
  enough (suc k) (l ∷ ls) q i h =
      go (line_admitted timed table q l) (is_taken (line_admitted timed table q l).answer) refl (line-room q l) (enough k ls (line_admitted timed table q l).left (i + 1))
    where
      go : (a : Answered Queue) (b : Bool) → is_taken a.answer ≡ b → (is_taken a.answer ≡ true → (q.count < 64) × (a.left.count ≡ q.count + 1))
          → (64 ≤ a.left.count + k → admitted_all timed table old a.left (i + 1) (take (suc k) ls) ≡ admitted_all timed table old a.left (i + 1) ls)
          → cond b (admitted_all timed table old a.left (i + 1) (take (suc k) ls)) (record { left = old; answer = a.answer; line = i })
          ≡ cond b (admitted_all timed table old a.left (i + 1) ls) (record { left = old; answer = a.answer; line = i })
      go a true t r rec = let c = (r t).1 in rec (omega (arith, h, c))
      go a false t r rec = refl

pub handed-timed : (timed : Bool) (s : Score) → (entrance_read_of timed s).timed ≡ timed
unfolding entrance_read_of
handed-timed timed s = refl

-- What is handed over brings what the whole reading brings.
pub handed-brings : (ended timed : Bool) (table : List Instrument) (q : Queue) (s : Score) → submitted_in ended timed table q (score_in (entrance_read_of timed s)) ≡ submitted_in ended timed table q s
unfolding submitted_in score_in entrance_read_of
handed-brings ended timed table q s =
    ap (λ (x : AnsweredLine Queue). cond ended (record { left = q; answer = answer.Ended; line = 0 }) (cond (is_taken s.answer) x (record { left = q; answer = s.answer; line = s.line })))
    (ap (admitted_all timed table q q 0) (take-append_seam (take most_lines_read s.lines) (drop (length (take most_lines_read s.lines)) blank))
    ∙ enough timed table q 64 s.lines q 0 (omega arith))

-- ---- the whole: 9, then its lines where it was read, else its fault

module _ (ended : Bool) (table : List Instrument) (q : Queue) (h : EntranceRead) where
  pub brings-over : ended ≡ true → record { left = q; answer = answer.Ended; line = 0 } ≡ submitted_in ended h.timed table q (score_in h)
  unfolding submitted_in
  brings-over e = sym (cond-true _ _ e)

  module _ (e : ended ≡ false) where
    pub brings-lines : is_taken h.answer ≡ true → (x : AnsweredLine Queue) → x ≡ admitted_all h.timed table q q 0 (take h.count h.lines)
        → x ≡ submitted_in ended h.timed table q (score_in h)
    unfolding submitted_in score_in
    brings-lines t x k = k ∙ sym (cond-false _ _ e ∙ cond-true _ _ t)

    pub brings-fault : is_taken h.answer ≡ false → record { left = q; answer = h.answer; line = h.line } ≡ submitted_in ended h.timed table q (score_in h)
    unfolding submitted_in score_in
    brings-fault t = sym (cond-false _ _ e ∙ cond-false _ _ t)

-- what a unit hands over
pub unit-brings : (ended : Bool) (table : List Instrument) (q : Queue) (bytes : List ℕ) (h : EntranceRead) → h ≡ entrance_read_of (must_be_timed unit) (reads unit bytes)
    → (x : AnsweredLine Queue) → x ≡ submitted_in ended h.timed table q (score_in h) → x ≡ submitted_in ended (must_be_timed unit) table q (reads unit bytes)
unit-brings ended table q bytes h e x k =
    k ∙ ap (λ (y : EntranceRead). submitted_in ended y.timed table q (score_in y)) e ∙ by-time ∙ handed-brings ended (must_be_timed unit) table q (reads unit bytes)
  where
    by-time : submitted_in ended (entrance_read_of (must_be_timed unit) (reads unit bytes)).timed table q (score_in (entrance_read_of (must_be_timed unit) (reads unit bytes)))
        ≡ submitted_in ended (must_be_timed unit) table q (score_in (entrance_read_of (must_be_timed unit) (reads unit bytes)))
    by-time = ap (λ (t : Bool). submitted_in ended t table q (score_in (entrance_read_of (must_be_timed unit) (reads unit bytes)))) (handed-timed (must_be_timed unit) (reads unit bytes))
