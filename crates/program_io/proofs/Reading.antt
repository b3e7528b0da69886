-- Words and digits read from a list of bytes.
use Rattle.std.proofs.Common.{◌≡◌, ℕ, zero, suc, ◌+◌, ◌-◌, ◌*◌, ◌<◌, ◌≤◌, cond, ◌&&◌, Bool, true, false, ltb, w32, List, [], ◌∷◌, ◌++◌, length, get_or, drop, set, sym, refl, ap, ◌∙◌, append_assoc, zero-le, add-one, arith, length-append, length-set, drop_of_length-le, drop-cons, le-ltb, lt-ltb}
use Rattle.std.specs.Int.{from_be_bytes}
use lib.ListN.{get_or-eq_default}
use lib.Seq.{set_at}
use Rattle.program_io.specs.Bytes.{word_at, words_of}
use Rattle.program_io.specs.Decimal.{is_digit, digits_after}

pub word-is : (l : List ℕ) (at : ℕ) {a b c d v : ℕ} → a ≡ get_or l at 0 → b ≡ get_or l (at + 1) 0 → c ≡ get_or l (at + 2) 0
    → d ≡ get_or l (at + 3) 0 → v ≡ from_be_bytes w32 (a ∷ b ∷ c ∷ d ∷ []) → v ≡ word_at l at
unfolding word_at
word-is l at {a} {b} {c} {d} e f g h w =
    let k : a * 16777216 + b * 65536 + c * 256 + d ≡ ((a * 256 + b) * 256 + c) * 256 + d = omega arith in
    w ∙ k ∙ (λ i. ((e i * 256 + f i) * 256 + g i) * 256 + h i)

pub word-past : (l : List ℕ) (at : ℕ) → length l ≤ at → 0 ≡ word_at l at
unfolding word_at
word-past l at h =
    let a = get_or-eq_default l 0 h in
    let b = get_or-eq_default l 0 (let t : length l ≤ at + 1 = omega arith in t) in
    let c = get_or-eq_default l 0 (let t : length l ≤ at + 2 = omega arith in t) in
    let d = get_or-eq_default l 0 (let t : length l ≤ at + 3 = omega arith in t) in
    sym (λ i. ((a i * 256 + b i) * 256 + c i) * 256 + d i)

-- a loop over the words of s: i of them are done
pub record Wording (s old new : List ℕ) (i : ℕ) : Type 0 where
  pub done : new ≡ words_of s i ++ drop i old
  pub upto : i ≤ length old
  pub size : length new ≡ length old

length-words : (s : List ℕ) (n : ℕ) → length (words_of s n) ≡ n
unfolding words_of
length-words s zero = refl
length-words s (suc n) = length-append (words_of s n) (word_at s (4 * n) ∷ []) ∙ let e = length-words s n in omega arith

module _ (s old : List ℕ) where
  pub words-start : Wording s old old 0
  unfolding words_of
  words-start = record { done = refl; upto = zero-le; size = refl }

  pub words-again : {new : List ℕ} {i v : ℕ} → Wording s old new i → i < length new → v ≡ word_at s (4 * i) → Wording s old (set new i v) (i + 1)
  unfolding words_of
  words-again {new} {i} {v} p g e =
      let h : i < length old = omega (arith, p.size) in
      record {
        done =
            ap (λ l. set l i v) (p.done ∙ ap (λ l. words_of s i ++ l) (drop-cons old i 0 h))
            ∙ set_at (words_of s i) (get_or old i 0) (drop (suc i) old) v i (length-words s i)
            ∙ ap (λ x. words_of s i ++ (x ∷ drop (suc i) old)) e
            ∙ sym (append_assoc (words_of s i) (word_at s (4 * i) ∷ []) (drop (suc i) old))
            ∙ ap (λ n. words_of s n ++ drop n old) (sym (add-one i));
        upto = omega arith;
        size = length-set new i v ∙ p.size;
      }

  pub words-end : {new : List ℕ} {i : ℕ} → Wording s old new i → length new ≤ i → new ≡ words_of s (length old)
  words-end {i = i} p g =
      let h : length old ≤ i = omega (arith, p.size) in
      let e : i ≡ length old = omega (arith, p.upto) in
      p.done ∙ ap (λ l. words_of s i ++ l) (drop_of_length-le old h) ∙ append-none (words_of s i) ∙ ap (words_of s) e
    where
      append-none : (l : List ℕ) → l ++ [] ≡ l
      append-none [] = refl
      append-none (x ∷ l) = ap (λ k. x ∷ k) (append-none l)

pub past_end : (l : List ℕ) (n : ℕ) → length l ≤ n → 0 ≡ get_or l n 0
past_end l n h = sym (get_or-eq_default l 0 h)

-- a loop over the digits of a text: those that are left give what the whole text gives
pub record Digits (text : List ℕ) (n i : ℕ) : Type 0 where
  pub rest : digits_after n (drop i text) ≡ digits_after 0 text

pub digits-start : (text : List ℕ) → Digits text 0 0
digits-start text = record { rest = refl }

pub digits-end : {n i : ℕ} {text : List ℕ} → Digits text n i → length text ≤ i → n ≡ digits_after 0 text
unfolding digits_after
digits-end {n} {i} {text} d h = sym (ap (digits_after n) (drop_of_length-le text h)) ∙ d.rest

module _ {n i : ℕ} {text : List ℕ} {r : Bool} (d : Digits text n i) (h : i < length text) (e : r ≡ is_digit (get_or text i 0)) where
  here : digits_after n (drop i text) ≡ cond (r && ltb n 100000000) (digits_after (n * 10 + (get_or text i 0 - 48)) (drop (suc i) text)) 0
  unfolding digits_after
  here =
      ap (digits_after n) (drop-cons text i 0 h)
      ∙ ap (λ x. cond (x && ltb n 100000000) (digits_after (n * 10 + (get_or text i 0 - 48)) (drop (suc i) text)) 0) (sym e)

  pub other-stops : r ≡ false → 0 ≡ digits_after 0 text
  other-stops f = sym (here ∙ rw f) ∙ d.rest

  pub long-stops : r ≡ true → 99999999 < n → 0 ≡ digits_after 0 text
  long-stops t m = sym (here ∙ rw (t, le-ltb n 100000000 (omega arith))) ∙ d.rest

  pub digit-again : r ≡ true → n ≤ 99999999 → Digits text (n * 10 + (get_or text i 0 - 48)) (i + 1)
  digit-again t m =
      record {
        rest =
            ap (λ k. digits_after (n * 10 + (get_or text i 0 - 48)) (drop k text)) (add-one i)
            ∙ sym (here ∙ rw (t, lt-ltb n 100000000 (omega arith))) ∙ d.rest;
      }
