-- The token that stands at a place of the bytes: its words, whether it is valid.
use Prim.Native.Nat.{ℕ, ◌+◌, ◌*◌, ◌%◌, ◌<◌}
use native.Mathlib.Omega.{arith}
use native.Mathlib.Nat.{mod-eq_of_lt}
use mathlib.Core.Path.{◌≡◌, refl, sym, ap, ◌∙◌}
use mathlib.Core.Bool.{Bool, true, false, not, ◌&&◌, and-true}
use mathlib.Core.List.{List}
use lib.ListN.{get_or, drop}
use lib.Seq.{get_or-drop}
use lib.Dec.{eqb, leb, ltb}
use lib.Ieee.{Float, binary32, of_bits, fits}
use lib.Ieee.Bits.{is_true, of_bits-fits}
use lib.Ieee.Scale.{finite}
use borrow.Author.Tests.{lt-ltb, ne_eqb, eqb-true}
use Rattle.base_timebase.specs.Time.{finite_bits}
use Rattle.base_timebase.specs.inside.Range.{checked}
use Rattle.std.specs.Prelude.{Option}
use Rattle.std.specs.Option.{is_some, unwrap_or}
use Rattle.orchestra_tokens.specs.inside.Token.{zero_f}
use Rattle.orchestra_tokens.specs.Encoding.{valid}
use Rattle.orchestra_tokens.specs.inside.Scanning.{more, two_of, four_of, token_from}
use Rattle.orchestra_tokens.specs.Measures.{kind_of}
use Rattle.orchestra_tokens.specs.inside.Passes.{standing}
use Rattle.orchestra_tokens.specs.inside.Reading.{real_of}
use Rattle.orchestra_tokens.specs.declared.Token.TheVariants.{Number, Symbol, Whole, Sign}

-- ---- words

drop_get : (bs : List ℕ) (at i j : ℕ) → at + i ≡ j → get_or (drop at bs) i 0 ≡ get_or bs j 0
drop_get bs at i j e = get_or-drop at bs i 0 ∙ ap (λ (n : ℕ). get_or bs n 0) e

pub two_is : (bs : List ℕ) (at a b h l : ℕ) → a ≡ get_or bs at 0 → h ≡ a → b ≡ get_or bs (at + 1) 0 → l ≡ b → 256 * h + l ≡ two_of (drop at bs)
two_is bs at a b h l p q r s = omega (arith, drop_get bs at 0 at (omega arith), drop_get bs at 1 (at + 1) (omega arith))

pub four_is : (bs : List ℕ) (at h l : ℕ) → h ≡ two_of (drop at bs) → l ≡ two_of (drop (at + 2) bs) → 65536 * h + l ≡ four_of (drop at bs)
four_is bs at h l p q =
    omega
    (arith, drop_get bs (at + 2) 0 (at + 2) (omega arith), drop_get bs at 2 (at + 2) (omega arith), drop_get bs (at + 2) 1 (at + 3) (omega arith), drop_get bs at 3 (at + 3) (omega arith))

some-checked : (p : Bool) (b : ℕ) → is_some (checked p b) ≡ p
unfolding checked
some-checked true b = refl
some-checked false b = refl

pub finite-is : (w : ℕ) (c : Option Float) {b : Bool} → c ≡ checked (finite_bits w) w → b ≡ is_some c → b ≡ finite_bits w
finite-is w c e f = f ∙ ap (λ (o : Option Float). is_some o) e ∙ some-checked (finite_bits w) w

fits-of : (w : ℕ) → (finite (of_bits binary32 w) && fits binary32 (of_bits binary32 w)) ≡ finite_bits w
unfolding finite_bits
fits-of w = rw (is_true (fits binary32 (of_bits binary32 w)) (of_bits-fits binary32 w)) (and-true (finite (of_bits binary32 w)))

module _ (bs : List ℕ) (at k : ℕ) (e : k ≡ get_or bs at 0) where
  -- ---- valid

  pub valid-symbol : k ≡ 0xf0 → true ≡ valid (standing bs at)
  unfolding token_from
  valid-symbol s = rw (← e, s) (sym (lt-ltb (two_of (drop (at + 1) bs) % 65536) 65536 (omega arith)))

  pub valid-number : (w : ℕ) (b : Bool) → k ≡ 0xf1 → w ≡ four_of (drop (at + 1) bs) → b ≡ finite_bits w → b ≡ valid (standing bs at)
  unfolding token_from
  valid-number w b s p q = rw (← e, s, q, p) (sym (fits-of (four_of (drop (at + 1) bs))))

  pub valid-whole : (w : ℕ) → k ≡ 0xf2 → w ≡ four_of (drop (at + 1) bs) → ltb w 16777217 ≡ valid (standing bs at)
  unfolding token_from
  valid-whole w s p = rw (← e, s, p)

  pub valid-none : k ≡ 0 → not (eqb k 0) ≡ valid (standing bs at)
  unfolding token_from
  valid-none s = rw (← e, s)

  pub valid-sign : (k ≡ 0xf0 → ⊥) → (k ≡ 0xf1 → ⊥) → (k ≡ 0xf2 → ⊥) → (k ≡ 0 → ⊥) → leb k 36 ≡ valid (standing bs at)
  unfolding token_from
  valid-sign a b c d = rw (← e, ne_eqb k 0xf0 a, ne_eqb k 0xf1 b, ne_eqb k 0xf2 c, lt-ltb 0 k (omega (arith, d)))

  -- ---- the token

  pub symbol-stands : (w : ℕ) → k ≡ 0xf0 → w < 65536 → w ≡ two_of (drop (at + 1) bs) → Symbol w ≡ standing bs at
  unfolding token_from
  symbol-stands w s l p = rw (← e, s, ← p) (ap Symbol (sym (mod-eq_of_lt l)))

  pub number-stands : (x : Float) → k ≡ 0xf1 → x ≡ real_of (standing bs at) → Number x ≡ standing bs at
  unfolding token_from
  number-stands x s p = ap Number p ∙ rw (← e, s)

  pub whole-stands : (w : ℕ) → k ≡ 0xf2 → w ≡ four_of (drop (at + 1) bs) → Whole w ≡ standing bs at
  unfolding token_from
  whole-stands w s p = rw (← e, s, p)

  pub sign-stands : (k ≡ 0xf0 → ⊥) → (k ≡ 0xf1 → ⊥) → (k ≡ 0xf2 → ⊥) → Sign k ≡ standing bs at
  unfolding token_from
  sign-stands a b c = rw (← e, ne_eqb k 0xf0 a, ne_eqb k 0xf1 b, ne_eqb k 0xf2 c)

  pub real-number : (w : ℕ) (c : Option Float) (x : Float) → valid (standing bs at) ≡ true → k ≡ 0xf1 → w ≡ four_of (drop (at + 1) bs) → c ≡ checked (finite_bits w) w → x ≡ unwrap_or c zero_f
      → x ≡ real_of (standing bs at)
  unfolding token_from checked
  real-number w c x l s p q r =
      let f = valid-number w (finite_bits w) s p refl ∙ l in
      let y = r ∙ ap (λ (o : Option Float). unwrap_or o zero_f) (q ∙ ap (λ (b : Bool). checked b w) f) in
      rw (← e, s, ← p) y

  real-else : (a b : Bool) → (k ≡ 0xf1 → ⊥) → eqb k 0xf0 ≡ a → eqb k 0xf2 ≡ b → zero_f ≡ real_of (standing bs at)
  unfolding token_from
  real-else true b p q r = rw (← e, q)
  real-else false true p q r = rw (← e, q, ne_eqb k 0xf1 p, r)
  real-else false false p q r = rw (← e, q, ne_eqb k 0xf1 p, r)

  pub real-none : (k ≡ 0xf1 → ⊥) → zero_f ≡ real_of (standing bs at)
  real-none p = real-else (eqb k 0xf0) (eqb k 0xf2) p refl refl

  kind-else : (a b c : Bool) → eqb k 0xf0 ≡ a → eqb k 0xf1 ≡ b → eqb k 0xf2 ≡ c → kind_of (standing bs at) ≡ k
  unfolding token_from
  kind-else true b c p q r = rw (← e, p) (sym (eqb-true k 0xf0 p))
  kind-else false true c p q r = rw (← e, p, q) (sym (eqb-true k 0xf1 q))
  kind-else false false true p q r = rw (← e, p, q, r) (sym (eqb-true k 0xf2 r))
  kind-else false false false p q r = rw (← e, p, q, r)

  pub kind-is : kind_of (standing bs at) ≡ k
  kind-is = kind-else (eqb k 0xf0) (eqb k 0xf1) (eqb k 0xf2) refl refl refl
