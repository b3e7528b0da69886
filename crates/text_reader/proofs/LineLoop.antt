-- The loop over the lines of a text. Assumes nothing.
use Prim.Native.Nat.{ℕ, zero, suc, ◌+◌, ◌-◌, ◌≤◌, ◌<◌}
use mathlib.Core.Path.{◌≡◌, refl, sym, ap, ap₂, ◌∙◌}
use mathlib.Core.Bool.{Bool, true, false, cond}
use mathlib.Core.List.{List, []}
use native.Mathlib.Numerals.{add-one}
use native.Mathlib.Omega.{arith}
use borrow.Author.Tests.{le-leb, lt-leb}
use lib.ListN.{length, drop, length-drop}
use lib.Seq.{drop-drop}
use Rattle.base_laws.proofs.Choice.{cond-true, cond-false}
use Rattle.base_answer.specs.Numbers.{is_taken}
use Rattle.base_answer.specs.declared.Answer.{Answer}
use Rattle.base_answer.specs.declared.Answer.TheVariants.{Taken}
use Rattle.text_numerals.specs.inside.Reading.{Read, got, refused}
use Rattle.text_number_reader.proofs.Bytes.{here, past}
use Rattle.score_line.specs.Reading.{answer_of, line_read, refused_line}
use Rattle.score_line.specs.declared.Line.{Line}
use Rattle.score_line.specs.declared.LineRead.{LineRead}
use Rattle.score_reader.specs.Score.{Lines, all, faulty, before, line_then}
use Rattle.score_reader.specs.declared.ScoreRead.{ScoreRead}
use Rattle.score_reader.proofs.Readers.{fault-not-taken}
use Rattle.text_format.specs.Content.{Content, line_content, most_lines, judged_from, judgement}
use Rattle.text_format.specs.inside.Reading.{line_from, Text, lines, bad, then_lines, unless_none, lines_from, judged, text_of}
use Rattle.text_format.specs.inside.Reading as text
use Rattle.text_event_reader.specs.Results.{position, line_told}
use Rattle.std.specs.Prelude.{Option, Some, None}
use Rattle.std.proofs.lemmas.Option.{same_Some, none-some}
use Rattle.text_event_reader.proofs.Leaves.{Leaves, line-leaves}
use Rattle.text_reader.specs.Texts.{text_told, bad_at, first_of, counted_to, line_at}
use Rattle.text_reader.specs.declared.TextRead.{TextRead}
use Rattle.base_formats.specs.Format as fields

-- ---- one line

-- a line that stands at a position, what was read of it, and the position past it
pub record Standing (s : List ℕ) (at : ℕ) (l : LineRead) (next : ℕ) : Type 0 where
  pub content : Content
  pub there : line_from (drop at s) ≡ got content (drop next s)
  pub read : l ≡ line_read (line_content content)
  pub fewer : length (drop next s) < length (drop at s)

pub standing : (s : List ℕ) (at : ℕ) {l : LineRead} {next : ℕ} → line_at s at ≡ Some (l, next) → Standing s at l next
unfolding line_told
standing s at {l} {next} e = go (line_from (drop at s)) refl (line-leaves (drop at s)) e
  where
    go : (x : Read Content) → line_from (drop at s) ≡ x → Leaves 1 (drop at s) x → line_told s x ≡ Some (l, next) → Standing s at l next
    go (got sd r) f b e =
        let n = length-drop at s in
        let k : r ≡ drop (at + b.passed) s = b.is ∙ drop-drop b.passed at s in
        let m : length r ≡ length s - (at + b.passed) = ap length k ∙ length-drop (at + b.passed) s in
        let w : ◌≡◌ {A = LineRead × ℕ} (l, next) (line_read (line_content sd), position s r) = sym (same_Some _ _ e) in
        let o : position s r ≡ at + b.passed = omega (arith, m, n, b.within, b.some_of) in
        let p : next ≡ at + b.passed = ap (λ (x : LineRead × ℕ). x.1) w ∙ o in
        let q : r ≡ drop next s = k ∙ ap (λ (j : ℕ). drop j s) (sym p) in
        record {
          content = sd;
          there = f ∙ ap (got sd) q;
          read = ap (λ (x : LineRead × ℕ). x.0) w;
          fewer = omega (arith, b.within, b.some_of, ap length q);
        }
    go refused f b e = absurd (none-some (l, next) e)

pub no-standing : (s : List ℕ) (at : ℕ) → line_at s at ≡ None → line_from (drop at s) ≡ refused
unfolding line_told
no-standing s at e = go (line_from (drop at s)) e
  where
    go : (x : Read Content) → line_told s x ≡ None → x ≡ refused
    go (got sd r) e = absurd (none-some (line_read (line_content sd), position s r) (sym e))
    go refused e = refl

-- ---- the lines from a position on

module _ (s : List ℕ) (n i at : ℕ) (h : at < length s) where
  unless : {t : Text} → unless_none (drop at s) t ≡ t
  unless {t} = ap (λ (bs : List ℕ). unless_none bs t) (here s at h)

  pub lines-many : most_lines ≤ i → lines_from (suc n) i (drop at s) ≡ bad i
  unfolding lines_from
  lines-many k = unless ∙ cond-true _ _ (le-leb most_lines i k)

  module _ (k : i < most_lines) where
    pub lines_none : line_from (drop at s) ≡ refused → lines_from (suc n) i (drop at s) ≡ bad i
    unfolding lines_from
    lines_none e = unless ∙ cond-false _ _ (lt-leb most_lines i k) ∙ ap (λ (x : Read Content). then_lines x i (λ r. lines_from n (suc i) r)) e

    pub lines_more : (sd : Content) (r : List ℕ) → line_from (drop at s) ≡ got sd r → lines_from (suc n) i (drop at s) ≡ text.before sd (lines_from n (suc i) r)
    unfolding lines_from
    lines_more sd r e = unless ∙ cond-false _ _ (lt-leb most_lines i k) ∙ ap (λ (x : Read Content). then_lines x i (λ r. lines_from n (suc i) r)) e

pub lines_end : (s : List ℕ) (n i at : ℕ) → length s ≤ at → lines_from n i (drop at s) ≡ lines []
unfolding lines_from
lines_end s zero i at h = ap (λ (bs : List ℕ). unless_none bs (bad i)) (past s at h)
lines_end s (suc n) i at h = ap (lines_from (suc n) i) (past s at h)

-- ---- what the pass answers, from the first fault so far and what is ahead

abbrev after : ℕ → Lines → TextRead
after i (all ls p) = record { answer = Taken; line = 0; count = i + length ls }
after i (faulty f k) = record { answer = answer_of f; line = k; count = 0 }

abbrev final : ScoreRead → ℕ → Text → TextRead
final fault i (lines ss) = cond (is_taken fault.answer) (after i (judged_from i ss)) (record { answer = fault.answer; line = fault.line; count = 0 })
final fault i (bad k) = bad_at k

final-whole : (t : Text) → final (record { answer = Taken; line = 0 }) 0 t ≡ text_told (judged t)
unfolding text_told
final-whole (bad k) = refl
final-whole (lines ss) = go (judged_from 0 ss)
  where
    go : (x : Lines) → after 0 x ≡ text_told (judgement x)
    go (all ls p) = let n : 0 + length ls ≡ length ls = omega arith in ap (λ (j : ℕ). record { answer = Taken; line = 0; count = j }) n
    go (faulty f k) = refl

final-none : (fault : ScoreRead) (i : ℕ) → final fault i (lines []) ≡ counted_to fault i
unfolding counted_to judged_from
final-none fault i = let n : i + 0 ≡ i = omega arith in ap (λ (j : ℕ). cond (is_taken fault.answer) (record { answer = Taken; line = 0; count = j }) (record { answer = fault.answer; line = fault.line; count = 0 })) n

after-before : (i : ℕ) (l : Line) (x : Lines) → after i (before l x) ≡ after (suc i) x
after-before i l (all ls p) = let n : i + suc (length ls) ≡ suc i + length ls = omega arith in ap (λ (j : ℕ). record { answer = Taken; line = 0; count = j }) n
after-before i l (faulty f k) = refl

final-more : (fault : ScoreRead) (i : ℕ) (sd : Content) (t : Text) → final fault i (text.before sd t) ≡ final (first_of fault (line_read (line_content sd)).answer i) (suc i) t
unfolding first_of judged_from line_read refused_line
final-more fault i sd (bad k) = refl
final-more fault i sd (lines ss) = by-fault (is_taken fault.answer) refl
  where
    kept : TextRead
    kept = record { answer = fault.answer; line = fault.line; count = 0 }

    judged-so : is_taken fault.answer ≡ true → (x : fields.Read Line)
        → after i (line_then x i (λ p. judged_from (suc i) ss)) ≡ final (cond (is_taken (line_read x).answer) fault (record { answer = (line_read x).answer; line = i })) (suc i) (lines ss)
    judged-so e (fields.got l p) = after-before i l (judged_from (suc i) ss) ∙ sym (cond-true _ _ e)
    judged-so e (fields.refused f) = sym (ap (λ (b : Bool). final (cond b fault (record { answer = answer_of f; line = i })) (suc i) (lines ss)) (fault-not-taken f) ∙ cond-false _ _ (fault-not-taken f))

    by-fault : (b : Bool) → is_taken fault.answer ≡ b
        → cond b (after i (line_then (line_content sd) i (λ p. judged_from (suc i) ss))) kept
        ≡ final (cond b (cond (is_taken (line_read (line_content sd)).answer) fault (record { answer = (line_read (line_content sd)).answer; line = i })) fault) (suc i) (lines ss)
    by-fault true e = judged-so e (line_content sd)
    by-fault false e = sym (cond-false _ _ e)

-- ---- the loop

module _ (s : List ℕ) where
  pub record Reading (fault : ScoreRead) (at i : ℕ) : Type 0 where
    pub upto : i ≤ most_lines
    pub room : length (drop at s) + i ≤ length s
    pub same : final fault i (lines_from (length s - i) i (drop at s)) ≡ text_told (text_of s)

  pub starts : Reading (record { answer = Taken; line = 0 }) 0 0
  unfolding text_of
  starts = record { upto = omega arith; room = omega arith; same = let n : length s - 0 ≡ length s = omega arith in ap (λ (j : ℕ). final (record { answer = Taken; line = 0 }) 0 (lines_from j 0 s)) n ∙ final-whole (lines_from (length s) 0 s) }

  module _ (fault : ScoreRead) (at i : ℕ) (g : Reading fault at i) where
    module _ (h : at < length s) where
      one_more : length s - i ≡ suc (length s - (i + 1))
      one_more = omega (arith, g.room, length-drop at s)

      from-here : final fault i (lines_from (suc (length s - (i + 1))) i (drop at s)) ≡ text_told (text_of s)
      from-here = ap (λ (j : ℕ). final fault i (lines_from j i (drop at s))) (sym one_more) ∙ g.same

      pub too_many : most_lines ≤ i → {r : TextRead} → r ≡ bad_at i → r ≡ text_told (text_of s)
      too_many k e = e ∙ sym (ap (final fault i) (lines-many s (length s - (i + 1)) i at h k)) ∙ from-here

      module _ (k : i < most_lines) {x : Option (LineRead × ℕ)} (e : x ≡ line_at s at) where
        pub stops : x ≡ None → {r : TextRead} → r ≡ bad_at i → r ≡ text_told (text_of s)
        stops y f = f ∙ sym (ap (final fault i) (lines_none s (length s - (i + 1)) i at h k (no-standing s at (sym e ∙ y)))) ∙ from-here

        pub again : {l : LineRead} {next : ℕ} → x ≡ Some (l, next) → {f : ScoreRead} → f ≡ first_of fault l.answer i → Reading f next (i + 1)
        again {l} {next} y {f} w =
            let t = standing s at (sym e ∙ y) in
            let n = length s - (i + 1) in
            let f-is : f ≡ first_of fault (line_read (line_content t.content)).answer i = w ∙ ap (λ (z : LineRead). first_of fault z.answer i) t.read in
            record {
              upto = omega arith;
              room = omega (arith, g.room, t.fewer);
              same =
                  ap₂ (λ (x : ScoreRead) (j : ℕ). final x j (lines_from n j (drop next s))) f-is (add-one i)
                  ∙ sym (final-more fault i t.content (lines_from n (suc i) (drop next s)))
                  ∙ sym (ap (final fault i) (lines_more s n i at h k t.content (drop next s) t.there)) ∙ from-here;
            }

    pub ends : length s ≤ at → {r : TextRead} → r ≡ counted_to fault i → r ≡ text_told (text_of s)
    ends h e = e ∙ sym (final-none fault i) ∙ sym (ap (final fault i) (lines_end s (length s - i) i at h)) ∙ g.same

-- ---- the ways through the small functions

module _ (fault : ScoreRead) (i : ℕ) {b : Bool} (e : b ≡ is_taken fault.answer) where
  pub first-kept : b ≡ false → (a : Answer) → fault ≡ first_of fault a i
  unfolding first_of
  first-kept y a = sym (cond-false _ _ (sym e ∙ y))

  module _ (y : b ≡ true) (a : Answer) {c : Bool} (f : c ≡ is_taken a) where
    pub first-none : c ≡ true → fault ≡ first_of fault a i
    unfolding first_of
    first-none z = sym (cond-true _ _ (sym e ∙ y) ∙ cond-true _ _ (sym f ∙ z))

    pub first-here : c ≡ false → record { answer = a; line = i } ≡ first_of fault a i
    unfolding first_of
    first-here z = sym (cond-true _ _ (sym e ∙ y) ∙ cond-false _ _ (sym f ∙ z))

  pub counted-all : b ≡ true → record { answer = Taken; line = 0; count = i } ≡ counted_to fault i
  unfolding counted_to
  counted-all y = sym (cond-true _ _ (sym e ∙ y))

  pub counted-fault : b ≡ false → record { answer = fault.answer; line = fault.line; count = 0 } ≡ counted_to fault i
  unfolding counted_to
  counted-fault y = sym (cond-false _ _ (sym e ∙ y))
