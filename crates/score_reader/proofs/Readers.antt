-- One law for each way through the readers of scores and units. Assumes nothing.
use Prim.Native.Nat.{ℕ, zero, suc, ◌+◌, ◌-◌, ◌<◌, ◌≤◌}
use mathlib.Core.Path.{◌≡◌, refl, sym, ap, ◌∙◌}
use mathlib.Core.Bool.{Bool, true, false, cond, true≢false}
use mathlib.Core.List.{List, [], ◌∷◌}
use native.Mathlib.Numerals.{add-one}
use native.Mathlib.Omega.{arith}
use borrow.Author.Tests.{eq-eqb, ne_eqb}
use Rattle.base_answer.specs.Numbers.{is_taken}
use Rattle.base_answer.specs.declared.Answer.TheVariants.{Taken, CutShort, NotCarried, LeftOver}
use Rattle.base_bitstream.specs.Fields.{read_at}
use Rattle.base_bitstream.specs.Filling.{filled}
use Rattle.std.specs.Prelude.{Option, Some, None}
use Rattle.base_formats.specs.Format.{bit_source, Read, got, refused}
use Rattle.base_formats.specs.declared.Fault.{Fault}
use Rattle.base_formats.specs.declared.Fault.TheVariants as fault
use Rattle.score_line.specs.Reading.{line_from, line_at, line_read, refused_line, answer_of}
use Rattle.score_line.specs.declared.Line.{Line}
use Rattle.score_line.specs.declared.LineRead.{LineRead}
use Rattle.score_reader.specs.Score.{Lines, all, faulty, before, line_then, lines_from, taken, refused_score, ended, counted, score_of, whole_line, opened, unit_of}
use Rattle.score_reader.specs.inside.Walk.{score_read_of, start_of, first_of, step_of, next_of}
use Rattle.score_reader.specs.declared.ScoreRead.{ScoreRead}
use Rattle.score_reader.specs.declared.Cursor.{Cursor}

-- ---- one line

pub fault-not-taken : (f : Fault) → is_taken (answer_of f) ≡ false
unfolding answer_of
fault-not-taken fault.CutShort = refl
fault-not-taken fault.NotCarried = refl
fault-not-taken fault.OutOfRange = refl
fault-not-taken fault.TooManyValues = refl

-- a reading whose answer is 0 has a line
pub record Got-line (x : Read Line) : Type 0 where
  pub line : Line
  pub next : ℕ
  pub is : x ≡ got line next

pub line_taken : (x : Read Line) → is_taken (line_read x).answer ≡ true → Got-line x
unfolding line_read refused_line
line_taken (got l p) e = record { line = l; next = p; is = refl }
line_taken (refused f) e = absurd (true≢false (sym e ∙ fault-not-taken f))

-- and any other a fault
pub record Faulty (x : Read Line) : Type 0 where
  pub fault : Fault
  pub is : x ≡ refused fault

pub line_refused : (x : Read Line) → is_taken (line_read x).answer ≡ false → Faulty x
unfolding line_read
line_refused (got l p) e = absurd (true≢false e)
line_refused (refused f) e = record { fault = f; is = refl }

-- ---- the lines of a score

heard-ended : (b : Bool) (ls ms : List Line) → score_read_of (cond b (taken ls) (refused_score LeftOver 0)) ≡ score_read_of (cond b (taken ms) (refused_score LeftOver 0))
heard-ended true ls ms = refl
heard-ended false ls ms = refl

-- what the call gives does not see the lines
heard-before : (bits : List Bool) (l : Line) (x : Lines) → score_read_of (ended bits (before l x)) ≡ score_read_of (ended bits x)
unfolding ended
heard-before bits l (all ls p) = heard-ended (filled bits p) (l ∷ ls) ls
heard-before bits l (faulty f i) = refl

-- one more line of n
lines_more : (bits : List Bool) (n i at : ℕ) → 0 < n → lines_from bits n i at ≡ line_then (line_from (bit_source bits) at) i (λ p. lines_from bits (n - 1) (suc i) p)
unfolding lines_from
lines_more bits zero i at h = absurd (omega arith)
lines_more bits (suc n) i at h = let e : suc n - 1 ≡ n = omega arith in rw e

-- the reading of what is left gives what the reading of all gives
pub record Reading (bits : List Bool) (count start at i : ℕ) : Type 0 where
  pub within : i ≤ count
  pub same : score_read_of (ended bits (lines_from bits (count - i) i at)) ≡ score_read_of (ended bits (lines_from bits count 0 start))

pub starts : (bits : List Bool) (count start : ℕ) → Reading bits count start start 0
starts bits count start = record { within = omega arith; same = let e : count - 0 ≡ count = omega arith in rw e }

module _ (bits : List Bool) (count start at i : ℕ) where
  module _ {r : LineRead} {b : Bool} (g : Reading bits count start at i) (h : i < count) (e : r ≡ line_at bits at) (f : b ≡ is_taken r.answer) where
    pub again : b ≡ true → Reading bits count start r.next (i + 1)
    unfolding line_at line_read
    again k =
        let t = line_taken (line_from (bit_source bits) at) (cc) in
        let p : r.next ≡ t.next = ap (λ (y : LineRead). y.next) e ∙ ap (λ (y : Read Line). (line_read y).next) t.is in
        let n : count - i - 1 ≡ count - (i + 1) = omega arith in
        let m = rw t.is at (lines_more bits (count - i) i at (omega arith)) in
        let q = heard-before bits t.line (lines_from bits (count - (i + 1)) (i + 1) r.next) in
        record { within = omega (arith, g.within); same = cc (m, q, add-one i, g.same) }

    pub stops : b ≡ false → record { answer = r.answer; line = i } ≡ score_read_of (ended bits (lines_from bits count 0 start))
    unfolding line_at line_read ended refused_line
    stops k =
        let t = line_refused (line_from (bit_source bits) at) (cc) in
        let a : r.answer ≡ answer_of t.fault = ap (λ (y : LineRead). y.answer) e ∙ ap (λ (y : Read Line). (line_read y).answer) t.is in
        let m = rw t.is at (lines_more bits (count - i) i at (omega arith)) in
        (λ j. record { answer = a j; line = i }) ∙ rw m at g.same

  pub ends : {r : ScoreRead} → Reading bits count start at i → count ≤ i → r ≡ score_read_of (ended bits (all [] at)) → r ≡ score_read_of (ended bits (lines_from bits count 0 start))
  unfolding lines_from
  ends g h e = let n : count - i ≡ 0 = omega arith in e ∙ rw n at g.same

-- ---- a whole score

pub end-filled : (bits : List Bool) (p : ℕ) {b : Bool} → b ≡ filled bits p → b ≡ true → record { answer = Taken; line = 0 } ≡ score_read_of (ended bits (all [] p))
unfolding ended
end-filled bits p e f = sym (rw (sym e ∙ f))

pub end-left : (bits : List Bool) (p : ℕ) {b : Bool} → b ≡ filled bits p → b ≡ false → record { answer = LeftOver; line = 0 } ≡ score_read_of (ended bits (all [] p))
unfolding ended
end-left bits p e f = sym (rw (sym e ∙ f))

pub score-counted : (bits : List Bool) (n p : ℕ) {g : Option (ℕ × ℕ)} {r : ScoreRead} → g ≡ read_at bits 0 20 → g ≡ Some (n, p) → r ≡ score_read_of (ended bits (lines_from bits n 0 p)) → r ≡ score_read_of (score_of bits)
unfolding score_of counted
score-counted bits n p e f h = h ∙ ap (λ (y : Option (ℕ × ℕ)). score_read_of (counted bits y)) (sym f ∙ e)

pub score-short : (bits : List Bool) {g : Option (ℕ × ℕ)} → g ≡ read_at bits 0 20 → g ≡ None → record { answer = CutShort; line = 0 } ≡ score_read_of (score_of bits)
unfolding score_of counted
score-short bits e f = ap (λ (y : Option (ℕ × ℕ)). score_read_of (counted bits y)) (sym f ∙ e)

-- ---- the cursor

pub first_counted : (bits : List Bool) (n p : ℕ) {g : Option (ℕ × ℕ)} → g ≡ read_at bits 0 20 → g ≡ Some (n, p) → record { at = p; left = n } ≡ first_of bits
unfolding first_of
first_counted bits n p e f = ap start_of (sym f ∙ e)

pub first_short : (bits : List Bool) {g : Option (ℕ × ℕ)} → g ≡ read_at bits 0 20 → g ≡ None → record { at = 0; left = 0 } ≡ first_of bits
unfolding first_of
first_short bits e f = ap start_of (sym f ∙ e)

pub next-step : (bits : List Bool) (c : Cursor) {r : LineRead} {k : ℕ} → r ≡ line_at bits c.at → k ≡ c.left - 1
    → record { answer = r.answer; line = r.line; rest = record { at = r.next; left = k } } ≡ next_of bits c
unfolding next_of
next-step bits c {r} e f = (λ j. record { answer = r.answer; line = r.line; rest = record { at = r.next; left = f j } }) ∙ ap (step_of c.left) e

-- ---- an access unit

pub whole-filled : (bits : List Bool) (r : LineRead) {a b : Bool} → a ≡ is_taken r.answer → a ≡ true → b ≡ filled bits r.next → b ≡ true → r ≡ whole_line bits r
unfolding whole_line
whole-filled bits r e f g h = sym (rw (sym e ∙ f, sym g ∙ h))

pub whole-left : (bits : List Bool) (r : LineRead) {a b : Bool} {x : LineRead} → a ≡ is_taken r.answer → a ≡ true → b ≡ filled bits r.next → b ≡ false → x ≡ refused_line LeftOver → x ≡ whole_line bits r
unfolding whole_line
whole-left bits r e f g h k = k ∙ sym (rw (sym e ∙ f, sym g ∙ h))

pub whole-refused : (bits : List Bool) (r : LineRead) {a : Bool} → a ≡ is_taken r.answer → a ≡ false → r ≡ whole_line bits r
unfolding whole_line
whole-refused bits r e f = sym (rw (sym e ∙ f))

pub unit-line : (bits : List Bool) (kind p : ℕ) {g : Option (ℕ × ℕ)} {r x : LineRead} → g ≡ read_at bits 0 2 → g ≡ Some (kind, p) → kind ≡ 0 → r ≡ line_at bits p → x ≡ whole_line bits r → x ≡ unit_of bits
unfolding unit_of opened
unit-line bits kind p e f z h k =
    k ∙ ap (whole_line bits) h ∙ sym (rw (sym e ∙ f, eq-eqb kind 0 z))

pub unit-other : (bits : List Bool) (kind p : ℕ) {g : Option (ℕ × ℕ)} {x : LineRead} → g ≡ read_at bits 0 2 → g ≡ Some (kind, p) → (kind ≡ 0 → ⊥) → x ≡ refused_line NotCarried → x ≡ unit_of bits
unfolding unit_of opened
unit-other bits kind p e f z k = k ∙ sym (rw (sym e ∙ f, ne_eqb kind 0 z))

pub unit-short : (bits : List Bool) {g : Option (ℕ × ℕ)} {x : LineRead} → g ≡ read_at bits 0 2 → g ≡ None → x ≡ refused_line CutShort → x ≡ unit_of bits
unfolding unit_of opened
unit-short bits e f k = k ∙ ap (opened bits) (sym f ∙ e)
