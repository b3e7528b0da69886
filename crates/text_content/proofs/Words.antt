-- The keypad numbers of what was said, put together. Assumes nothing.
use Prim.Native.Nat.{ℕ, ◌+◌, ◌≤◌, ◌<◌, min as lesser}
use mathlib.Core.Path.{◌≡◌, sym, ap, ap₂, ◌∙◌}
use mathlib.Core.Bool.{Bool}
use mathlib.Core.List.{List, [], ◌∷◌, ◌++◌}
use mathlib.Core.Option.{none, some}
use native.Mathlib.Omega.{arith}
use lib.ListN.{length, get_or, take, drop_of_length-le}
use lib.Seq.{drop-cons, take_all, length-take-le, take-append-add}
use lib.Ieee.{Float}
use Rattle.base_laws.proofs.Lists.{take_min}
use Rattle.score_line.specs.Reading.{line_in_words}
use Rattle.score_line.specs.LineFormat.{label_parts}
use Rattle.score_line.specs.declared.Label.{Label}
use Rattle.score_line.specs.declared.Label.TheVariants.{Labelled, Unlabelled}
use Rattle.score_line.specs.declared.LineRead.{LineRead}
use Rattle.text_format.specs.Content.{bits, flag, words_of, line_content}
use Rattle.text_format.specs.Content as content
use Rattle.text_content.specs.Judged.{judged_at, instr_numbers, instr_words}
use Rattle.text_content.specs.declared.ValueBits.{ValueBits}

-- ---- the first n numbers

pub first-long : {A : Type 0} (l : List A) (n : ℕ) → n < length l → n ≡ length (take n l)
first-long l n h = sym (length-take-le n l (omega arith))

pub first-all : (l : List ℕ) (n : ℕ) {r : LineRead} → length l ≤ n → r ≡ line_in_words l 0 → r ≡ line_in_words (take n l) 0
first-all l n h e = e ∙ ap (λ (x : List ℕ). line_in_words x 0) (sym (take_all n l h))

-- ---- end, tempo, control

module _ (priority : Bool) (time : Float) {t p : ℕ} (e : t ≡ bits time) (f : p ≡ flag priority) {r : LineRead} where
  pub end-judged : r ≡ line_in_words (1 ∷ (0 ∷ (t ∷ (p ∷ (4 ∷ []))))) 0 → r ≡ judged_at priority time content.end
  unfolding judged_at line_in_words line_content words_of
  end-judged h = h ∙ ap₂ (λ (x y : ℕ). line_in_words (1 ∷ (0 ∷ (x ∷ (y ∷ (4 ∷ []))))) 0) e f

  module _ (x : Float) {v : ℕ} (g : v ≡ bits x) where
    pub tempo-judged : r ≡ line_in_words (1 ∷ (0 ∷ (t ∷ (p ∷ (5 ∷ (v ∷ [])))))) 0 → r ≡ judged_at priority time (content.tempo x)
    unfolding judged_at line_in_words line_content words_of
    tempo-judged h = h ∙ (λ i. line_in_words (1 ∷ (0 ∷ (e i ∷ (f i ∷ (5 ∷ (g i ∷ [])))))) 0)

    pub control-labelled : (l name : ℕ) {label : Label} → label ≡ Labelled l → r ≡ line_in_words (1 ∷ (0 ∷ (t ∷ (p ∷ (1 ∷ (1 ∷ (l ∷ (name ∷ (v ∷ []))))))))) 0
        → r ≡ judged_at priority time (content.control (label_parts label) name x)
    unfolding judged_at line_in_words line_content words_of
    control-labelled l name k h = rw k (h ∙ (λ i. line_in_words (1 ∷ (0 ∷ (e i ∷ (f i ∷ (1 ∷ (1 ∷ (l ∷ (name ∷ (g i ∷ []))))))))) 0))

    pub control-plain : (name : ℕ) {label : Label} → label ≡ Unlabelled → r ≡ line_in_words (1 ∷ (0 ∷ (t ∷ (p ∷ (1 ∷ (0 ∷ (name ∷ (v ∷ [])))))))) 0
        → r ≡ judged_at priority time (content.control (label_parts label) name x)
    unfolding judged_at line_in_words line_content words_of
    control-plain name k h = rw k (h ∙ (λ i. line_in_words (1 ∷ (0 ∷ (e i ∷ (f i ∷ (1 ∷ (0 ∷ (name ∷ (g i ∷ [])))))))) 0))

-- ---- instr

abbrev all-eight : List ℕ → List ℕ
all-eight l = get_or l 0 0 ∷ (get_or l 1 0 ∷ (get_or l 2 0 ∷ (get_or l 3 0 ∷ (get_or l 4 0 ∷ (get_or l 5 0 ∷ (get_or l 6 0 ∷ (get_or l 7 0 ∷ [])))))))

eight_are : (l : List ℕ) → length l ≡ 8 → all-eight l ≡ l
eight_are l h =
    cc (
      drop-cons l 0 0 (omega arith),
      drop-cons l 1 0 (omega arith),
      drop-cons l 2 0 (omega arith),
      drop-cons l 3 0 (omega arith),
      drop-cons l 4 0 (omega arith),
      drop-cons l 5 0 (omega arith),
      drop-cons l 6 0 (omega arith),
      drop-cons l 7 0 (omega arith),
      drop_of_length-le l {i = 8} (omega arith),
    )

module _ (t p name d : ℕ) (k : ValueBits) (long : length k.bits ≡ 8) {c m : ℕ} (e : c ≡ lesser k.count 9) (f : m ≡ lesser k.count 8) where
  -- the numbers before the values, and then the values
  behind : (head : List ℕ) → take (length head + m) (head ++ all-eight k.bits) ≡ head ++ take k.count k.bits
  behind head =
      cc (take-append-add head (all-eight k.bits) m, eight_are k.bits long, take_min k.bits k.count 8 long)

  pub labelled-judged : (l : ℕ) {r : LineRead} → r ≡ line_in_words (take (10 + m) (1 ∷ (0 ∷ (t ∷ (p ∷ (0 ∷ (1 ∷ (l ∷ (name ∷ (d ∷ (c ∷ all-eight k.bits))))))))))) 0
      → r ≡ line_in_words (instr_numbers t p (some l) name d k) 0
  unfolding instr_numbers
  labelled-judged l h = h ∙ ap (λ (x : List ℕ). line_in_words x 0) (behind (1 ∷ (0 ∷ (t ∷ (p ∷ (0 ∷ (1 ∷ (l ∷ (name ∷ (d ∷ (c ∷ []))))))))))) ∙ (rw e)

  pub plain-judged : {r : LineRead} → r ≡ line_in_words (take (9 + m) (1 ∷ (0 ∷ (t ∷ (p ∷ (0 ∷ (0 ∷ (name ∷ (d ∷ (c ∷ all-eight k.bits)))))))))) 0
      → r ≡ line_in_words (instr_numbers t p none name d k) 0
  unfolding instr_numbers
  plain-judged h = h ∙ ap (λ (x : List ℕ). line_in_words x 0) (behind (1 ∷ (0 ∷ (t ∷ (p ∷ (0 ∷ (0 ∷ (name ∷ (d ∷ (c ∷ [])))))))))) ∙ (rw e)

module _ (priority : Bool) (time : Float) {t p : ℕ} (e : t ≡ bits time) (f : p ≡ flag priority) (name : ℕ) (x : Float) {d : ℕ} (g : d ≡ bits x) (k : ValueBits) {label : Label}
    {r : LineRead} where
  pub instr-labelled : (l : ℕ) → label ≡ Labelled l → r ≡ line_in_words (instr_numbers t p (some l) name d k) 0
      → r ≡ line_in_words (instr_words priority time (label_parts label) name x k) 0
  unfolding instr_words
  instr-labelled l h q = q ∙ (λ i. line_in_words (instr_numbers (e i) (f i) (label_parts (sym h i)) name (g i) k) 0)

  pub instr-plain : label ≡ Unlabelled → r ≡ line_in_words (instr_numbers t p none name d k) 0 → r ≡ line_in_words (instr_words priority time (label_parts label) name x k) 0
  unfolding instr_words
  instr-plain h q = q ∙ (λ i. line_in_words (instr_numbers (e i) (f i) (label_parts (sym h i)) name (g i) k) 0)
