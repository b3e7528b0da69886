-- The text of a float is found, or there is none. Assumes nothing.
use Prim.Native.Nat.{ℕ, zero, suc, ◌+◌, ◌*◌, ◌/◌, ◌%◌, ◌^◌, ◌<◌, ◌≤◌}
use mathlib.Core.Path.{◌≡◌, refl, sym, ap, ◌∙◌, subst}
use mathlib.Core.Bool.{Bool, true, false, cond, true≢false}
use mathlib.Core.List.{List, [], ◌∷◌}
use mathlib.Core.Option.{Option, none, some, map}
use native.Mathlib.Nat.{div-le_self, lt_of_le_of_lt}
use native.Mathlib.Omega.{arith}
use native.Mathlib.Decide.{dec_lt}
use borrow.Author.Tests.{eqb-true, eq-eqb, lt-ltb}
use lib.Arith.{digits_div}
use lib.Dec.{T}
use lib.ListN.{length}
use lib.Ieee.{Float, binary32, to_bits, fits}
use lib.Ieee.Bits.{of_bits-to_bits}
use lib.Ieee.Fits.{round-fits}
use Rattle.text_numerals.specs.Numeral.{Digits, Numeral, Valid, NoLeadingZeros, value_from, most_number, most_decimals, whole_of, float_of, meaning, lowest, width_of, decimal, numeral_of}
use Rattle.text_numerals.specs.Nearest.{sign_of}
use Rattle.text_numerals.specs.Shortest.{Reads, Shortest, NoText}
use Rattle.text_numerals.proofs.DecimalDigits.{lowest-length, value-split, value-below, lowest-back, decimal-back}
use Rattle.text_numerals.proofs.Quotient.{ten-pos, ten-mono}
use Rattle.text_numerals.proofs.Encoding.{one-text, not-both, whole_back, shortest-writes}
use Rattle.text_numerals.proofs.Units.{sign-of-round}
use Rattle.text_line_writer.specs.LineText.{Canonical}
use Rattle.text_line_writer.specs.inside.NumberText.{reads, or_else, smallest, with_decimals, number_text}

-- ---- the smallest that passes

data Found (test : ℕ → Bool) (k : ℕ) : Option ℕ → Type 0 where
  first : (n : ℕ) → n < k → test n ≡ true → ((j : ℕ) → j < n → test j ≡ false) → Found test k (some n)
  nowhere : ((j : ℕ) → j < k → test j ≡ false) → Found test k none

found : (test : ℕ → Bool) (k : ℕ) → Found test k (smallest test k)
unfolding smallest
found test zero = nowhere (λ j h. absurd (omega arith))
found test (suc k) = go (smallest test k) (found test k) (test k) refl
  where
    go : (o : Option ℕ) → Found test k o → (b : Bool) → test k ≡ b → Found test (suc k) (or_else o (cond b (some k) none))
    go _ (first n h t f) b e = first n (omega arith) t f
    go _ (nowhere f) true e = first k (omega arith) e f
    go _ (nowhere f) false e = nowhere (λ j h. below j h (dec_lt j k))
      where
        below : (j : ℕ) → j < suc k → Dec (j < k) → test j ≡ false
        below j h (yes l) = f j l
        below j h (no l) = let m : j ≡ k = omega arith in ap test m ∙ e

-- ---- reading as the float

pub float_fits : (s : Bool) (n d : ℕ) → T (fits binary32 (float_of s n d))
unfolding float_of
float_fits s n d = round-fits binary32 s n (10 ^ d)

module _ (x : Float) where
  reads-fits : (n d : ℕ) → Reads x n d → T (fits binary32 x)
  reads-fits n d r = rw r at (float_fits (sign_of x) n d)

  reads-no : (n d : ℕ) → reads x d n ≡ false → Reads x n d → ⊥
  unfolding reads
  reads-no n d e r = true≢false (sym (eq-eqb (to_bits binary32 (float_of (sign_of x) n d)) (to_bits binary32 x) (ap (to_bits binary32) r)) ∙ e)

  reads-yes : (n d : ℕ) → T (fits binary32 x) → reads x d n ≡ true → Reads x n d
  unfolding reads
  reads-yes n d h e =
      let y = float_of (sign_of x) n d in
      cc (of_bits-to_bits binary32 y (float_fits (sign_of x) n d), eqb-true (to_bits binary32 y) (to_bits binary32 x) e, of_bits-to_bits binary32 x h)

  -- ---- the fewest decimals

  pub data Texts : Option Numeral → Type 0 where
    shortest : (n d : ℕ) → Shortest x n d → Texts (some (numeral_of (sign_of x) n d))
    without : NoText x → Texts none

  -- no text has fewer than d
  abbrev Upto : ℕ → Type 0
  Upto d = (k c : ℕ) → k < most_number → c < d → Reads x k c → ⊥

  module _ (h : T (fits binary32 x)) where
    one : (d : ℕ) → d ≤ most_decimals → Upto d → (rest : Option Numeral) → (Upto (suc d) → Texts rest) → Texts (or_else (with_decimals x d) rest)
    unfolding with_decimals
    one d m u rest k = go (smallest (reads x d) most_number) (found (reads x d) most_number)
      where
        go : (o : Option ℕ) → Found (reads x d) most_number o → Texts (or_else (map (λ n. numeral_of (sign_of x) n d) o) rest)
        go _ (first n l t f) = shortest n d (record { below = l; few = m; reads = reads-yes n d h t; fewest = u; least = λ k z. reads-no k d (f k z) })
        go _ (nowhere f) = k (λ j c l z r. more j c l z r (dec_lt c d))
          where
            more : (j c : ℕ) → j < most_number → c < suc d → Reads x j c → Dec (c < d) → ⊥
            more j c l z r (yes y) = u j c l y r
            more j c l z r (no y) = reads-no j d (f j l) (subst (λ (b : ℕ). Reads x j b) (let e : c ≡ d = omega arith in e) r)

    alone : (o : Option Numeral) → Texts (or_else o none) → Texts o
    alone none t = t
    alone (some y) t = t

    pub number-texts : Texts (number_text x)
    unfolding number_text
    number-texts =
        one 0 (omega arith) (λ k c l z r. omega arith) _ (λ u. one 1 (omega arith) u _ (λ u. one 2 (omega arith) u _ (λ u.
        alone (with_decimals x 3) (one 3 (omega arith) u none (λ u. without (λ n d l m r. u n d l (omega arith) r))))))

-- ---- a plain numeral and its float

one-digit : (v : ℕ) → v < 10 → decimal (0 * 10 + v) ≡ v ∷ []
unfolding decimal width_of lowest
one-digit v h =
    let e : 0 * 10 + v ≡ v = omega arith in
    let f : v / 10 ^ 0 % 10 ≡ v = omega arith in
    rw (e, lt-ltb v 10 h, f)

-- a numeral without needless zeros is the one of its number
pub numeral-back : (t : Numeral) → Valid t → NoLeadingZeros t.digits → numeral_of t.minus (whole_of t) (length t.decimals) ≡ t
unfolding numeral_of whole_of Digits
numeral-back t h z =
    let d = length t.decimals in
    let q : whole_of t / 10 ^ d ≡ value_from 0 t.digits =
    ap (λ (n : ℕ). n / 10 ^ d) (value-split (value_from 0 t.digits) t.decimals) ∙ digits_div (value_from 0 t.digits) (value-below t.decimals h.decimals) in
    let l : value_from 0 t.digits < 100000000 = subst (λ (n : ℕ). n < 100000000) q (lt_of_le_of_lt (div-le_self (whole_of t) (10 ^ d)) (omega (arith, h.below))) in
    let e : decimal (whole_of t / 10 ^ d) ≡ t.digits = ap decimal q ∙ digits-back t.digits h.digits h.some z l in
    λ i. record { minus = t.minus; digits = e i; decimals = lowest-back (value_from 0 t.digits) t.decimals h.decimals i }
  where
    digits-back : (vs : List ℕ) → Digits vs → 0 < length vs → NoLeadingZeros vs → value_from 0 vs < 100000000 → decimal (value_from 0 vs) ≡ vs
    digits-back [] h s z l = absurd (omega arith)
    digits-back (v ∷ []) h s z l = one-digit v h.0
    digits-back (v ∷ (w ∷ vs)) h s z l = decimal-back v (w ∷ vs) h z l

pub sign-back : (t : Numeral) → Valid t → sign_of (meaning t) ≡ t.minus
unfolding meaning float_of
sign-back t h =
    sign-of-round t.minus (whole_of t) (10 ^ length t.decimals) (record { below = h.below; some = ten-pos (length t.decimals); most = ten-mono h.few })

decimals-of : (s : Bool) (n d : ℕ) → length (numeral_of s n d).decimals ≡ d
unfolding numeral_of
decimals-of s n d = lowest-length d n

-- a float and its text
pub data NumberTold (x : Float) : Option Numeral → Type 0 where
  plain : (t : Numeral) → Canonical t → meaning t ≡ x → NumberTold x (some t)
  none_of : NoText x → NumberTold x none

pub number-told : (x : Float) → T (fits binary32 x) → NumberTold x (number_text x)
number-told x h = go (number-texts x h)
  where
    go : {o : Option Numeral} → Texts x o → NumberTold x o
    go (shortest n d s) =
        let w = shortest-writes x n d s in
        let t = numeral_of (sign_of x) n d in
        let a : Shortest x (whole_of t) (length t.decimals) = rw (whole_back (sign_of x) n d s.below, decimals-of (sign_of x) n d) s in
        plain t (record { valid = w.valid; shortest = rw w.means a; unpadded = w.plain }) w.means
    go (without n) = none_of n

pub number_is : (x : Float) (n d : ℕ) → Shortest x n d → number_text x ≡ some (numeral_of (sign_of x) n d)
number_is x n d s = go (number-texts x (reads-fits x n d s.reads))
  where
    go : {o : Option Numeral} → Texts x o → o ≡ some (numeral_of (sign_of x) n d)
    go (shortest k c r) = let e = one-text x k c n d r s in λ i. some (numeral_of (sign_of x) (e.0 i) (e.1 i))
    go (without r) = absurd (not-both x n d s r)

pub number-none : (x : Float) → T (fits binary32 x) → NoText x → number_text x ≡ none
number-none x h r = go (number-texts x h)
  where
    go : {o : Option Numeral} → Texts x o → o ≡ none
    go (shortest n d s) = absurd (not-both x n d s r)
    go (without z) = refl

pub number-plain : (t : Numeral) → Canonical t → number_text (meaning t) ≡ some t
number-plain t h = cc (number_is (meaning t) (whole_of t) (length t.decimals) h.shortest, sign-back t h.valid, numeral-back t h.valid h.unpadded)
