-- Slots of an area: their lines, the first fault, the bits of their lines. Assumes nothing.
use Prim.Native.Nat.{ℕ, zero, suc, ◌+◌, ◌-◌, ◌*◌, ◌/◌, ◌<◌, ◌≤◌}
use mathlib.Core.Path.{◌≡◌, refl, sym, ap, ◌∙◌}
use mathlib.Core.Bool.{Bool, true, false}
use mathlib.Core.List.{List, [], ◌∷◌, ◌++◌, append_assoc, append-nil}
use native.Mathlib.Nat.{zero-add, add-zero}
use native.Mathlib.Numerals.{add-one}
use native.Mathlib.Omega.{arith}
use borrow.Author.Tests.{ne_eqb, lt-ltb, le-ltb, leb-true, leb-false}
use borrow.Table.Steps.{cases}
use lib.Dec.{leb}
use lib.ListN.{length, get_or, take, drop, length-append, drop_of_length-le}
use lib.Seq.{drop-cons}
use Rattle.base_answer.specs.Numbers.{is_taken}
use Rattle.base_answer.specs.declared.Answer.TheVariants as answer
use Rattle.score_line.specs.Reading.{line_in_words, refused_line}
use Rattle.score_line.specs.declared.Line.{Line}
use Rattle.score_line.specs.declared.LineRead.{LineRead}
use Rattle.score_line_writer.specs.Writing.{line_bits}
use Rattle.score_line.specs.LineFormat.{slot_words}
use Rattle.score_line_writer.proofs.Proved.{line-wide, length-line}
use Rattle.score_writer.specs.Writing.{lines_bits}
use Rattle.score_writer.specs.Slots.{all_zero, slot_line, slot_read, area_fault, area_lines}
use Rattle.score_writer.specs.inside.Laid.{Short}

-- ---- zeros to the end

module _ (words : List ℕ) (at : ℕ) where
  pub zero_more : (i : ℕ) → all_zero (drop i words) ≡ all_zero (drop at words) → i < length words → get_or words i 0 ≡ 0 → all_zero (drop (i + 1) words) ≡ all_zero (drop at words)
  zero_more i h l z = cc (drop-cons words i 0 l, add-one i)

  pub zero-no : (i : ℕ) → all_zero (drop i words) ≡ all_zero (drop at words) → i < length words → (get_or words i 0 ≡ 0 → ⊥) → false ≡ all_zero (drop at words)
  zero-no i h l z = cc (drop-cons words i 0 l, ne_eqb (get_or words i 0) 0 z)

  pub zero-end : (i : ℕ) → all_zero (drop i words) ≡ all_zero (drop at words) → length words ≤ i → true ≡ all_zero (drop at words)
  zero-end i h l = sym (ap all_zero (drop_of_length-le words l)) ∙ h

-- ---- a slot

module _ (slot : List ℕ) {r : LineRead} {b : Bool} (e : r ≡ line_in_words slot 0) (f : b ≡ is_taken r.answer) where
  pub slot_whole : {z : Bool} → b ≡ true → z ≡ all_zero (drop r.next slot) → z ≡ true → r ≡ slot_line slot
  unfolding slot_line
  slot_whole g k m = cc

  pub slot-longer : {z : Bool} {x : LineRead} → b ≡ true → z ≡ all_zero (drop r.next slot) → z ≡ false → x ≡ refused_line answer.LeftOver → x ≡ slot_line slot
  unfolding slot_line
  slot-longer g k m y = cc

  pub slot-refused : b ≡ false → r ≡ slot_line slot
  unfolding slot_line
  slot-refused g = cc

module _ (area : List ℕ) (i : ℕ) where
  pub slot-in : {r : LineRead} → i < length area / slot_words → r ≡ slot_line (take (slot_words * i + slot_words - slot_words * i) (drop (slot_words * i) area)) → r ≡ slot_read area i
  unfolding slot_read
  slot-in h e = let n : slot_words * i + slot_words - slot_words * i ≡ slot_words = omega arith in cc (lt-ltb i (length area / slot_words) h)

  pub slot-out : {r : LineRead} → length area / slot_words ≤ i → r ≡ refused_line answer.CutShort → r ≡ slot_read area i
  unfolding slot_read
  slot-out h e = cc (le-ltb i (length area / slot_words) h)

-- ---- the first fault

module _ (area : List ℕ) (n : ℕ) where
  pub record Checked (i : ℕ) : Type 0 where
    pub upto : i ≤ n
    pub same : area_fault area (n - i) i ≡ area_fault area n 0

  pub check-start : Checked 0
  check-start = let k : n - 0 ≡ n = omega arith in record { upto = omega arith; same = cc }

  module _ (i : ℕ) {r : LineRead} {b : Bool} (c : Checked i) (h : i < n) (e : r ≡ slot_read area i) (f : b ≡ is_taken r.answer) where
    one_less : n - i ≡ suc (n - (i + 1))
    one_less = omega arith

    pub check-more : b ≡ true → Checked (i + 1)
    unfolding area_fault
    check-more g = record { upto = omega arith; same = cc (one_less, add-one i, c.same) }

    pub check-stop : b ≡ false → record { answer = r.answer; line = i } ≡ area_fault area n 0
    unfolding area_fault
    check-stop g = cc (one_less, c.same)

  pub check-end : (i : ℕ) → Checked i → n ≤ i → record { answer = answer.Taken; line = 0 } ≡ area_fault area n 0
  unfolding area_fault
  check-end i c h = let k : n - i ≡ 0 = omega arith in cc c.same

-- ---- the lines and their bits

pub lines_snoc : (area : List ℕ) (n i : ℕ) → area_lines area (suc n) i ≡ area_lines area n i ++ ((slot_read area (i + n)).line ∷ [])
unfolding area_lines
lines_snoc area zero i = ap (λ (j : ℕ). (slot_read area j).line ∷ []) (sym (add-zero i))
lines_snoc area (suc n) i = let k : suc i + n ≡ i + suc n = omega arith in cc (lines_snoc area n (suc i))

pub lines-count : (area : List ℕ) (n i : ℕ) → length (area_lines area n i) ≡ n
unfolding area_lines
lines-count area zero i = refl
lines-count area (suc n) i = ap suc (lines-count area n (suc i))

bits-snoc : (ls : List Line) (l : Line) → lines_bits (ls ++ (l ∷ [])) ≡ lines_bits ls ++ line_bits l
unfolding lines_bits
bits-snoc [] l = append-nil (line_bits l)
bits-snoc (x ∷ ls) l = cc (bits-snoc ls l, append_assoc (line_bits x) (lines_bits ls) (line_bits l))

-- the bits of one line more
pub bits-more : (area : List ℕ) (i : ℕ) → lines_bits (area_lines area (i + 1) 0) ≡ lines_bits (area_lines area i 0) ++ line_bits (slot_read area i).line
bits-more area i = cc (add-one i, zero-add i, lines_snoc area i 0, bits-snoc (area_lines area i 0) (slot_read area (0 + i)).line)

pub length_more : (area : List ℕ) (i : ℕ) → length (lines_bits (area_lines area (i + 1) 0)) ≡ length (lines_bits (area_lines area i 0)) + length (line_bits (slot_read area i).line)
length_more area i = ap length (bits-more area i) ∙ length-append (lines_bits (area_lines area i 0)) (line_bits (slot_read area i).line)

pub bits-grow : (area : List ℕ) (i n : ℕ) → i ≤ n → length (lines_bits (area_lines area i 0)) ≤ length (lines_bits (area_lines area n 0))
bits-grow area i zero h = let e : i ≡ 0 = omega arith in rw e (omega arith)
bits-grow area i (suc n) h =
    cases (leb i n)
    (λ k. omega (arith, bits-grow area i n (leb-true i n k), length_more area n, ap (λ (j : ℕ). length (lines_bits (area_lines area j 0))) (add-one n)))
    (λ k. let e : i ≡ suc n = omega (arith, leb-false i n k) in rw e (omega arith))

pub line-short : (l : Line) (r : ℕ) → length l.values ≡ 8 → r ≡ length (line_bits l) → Short (length (line_bits l)) 367 r
line-short l r h e = record { is = e; bound = omega (arith, length-line l, (line-wide l h).1) }

module _ (area : List ℕ) (n : ℕ) where
  pub record Summed (total i : ℕ) : Type 0 where
    pub upto : i ≤ n
    pub sum : Short (length (lines_bits (area_lines area i 0))) (367 * i) total

  pub sum-start : Summed 0 0
  unfolding lines_bits area_lines
  sum-start = record { upto = omega arith; sum = record { is = refl; bound = omega arith } }

  pub sum_more : (total i m : ℕ) {r : LineRead} → Summed total i → i < n → r ≡ slot_read area i → Short (length (line_bits r.line)) 367 m → Summed (total + m) (i + 1)
  sum_more total i m c h e s =
      record { upto = omega arith; sum = record { is = cc (c.sum.is, s.is, length_more area i); bound = omega (arith, c.sum.bound, s.bound) } }

  pub sum-end : (total i : ℕ) → Summed total i → n ≤ i → Short (length (lines_bits (area_lines area n 0))) (367 * n) total
  sum-end total i c h = let e : i ≡ n = omega (arith, c.upto) in rw e at c.sum
