-- One lemma for each way through the search for a float's shortest text. Assumes nothing.
use Prim.Native.Nat.{ℕ, ◌+◌, ◌^◌, ◌≤◌, ◌<◌}
use mathlib.Core.Path.{◌≡◌, refl, sym, ap, ◌∙◌, subst}
use mathlib.Core.Logic.{inl, inr}
use mathlib.Core.Bool.{Bool, true, false}
use native.Mathlib.Nat.{eq-or-lt_of_le}
use native.Mathlib.Omega.{arith}
use lib.Dec.{T}
use lib.IntN.{pos}
use lib.Ieee.{Float, binary32, fits, eq, neg, div, of_int}
use Rattle.text_numerals.specs.Numeral.{most_number, most_decimals, float_of}
use Rattle.text_numerals.specs.Nearest.{sign_of}
use Rattle.text_numerals.specs.Shortest.{Reads}
use Rattle.text_numerals.proofs.Quotient.{quotient}
use Rattle.text_numerals.proofs.Signs.{minus-float}
use Rattle.std.specs.Prelude.{Option, Some, None}
use Rattle.text_number_writer.specs.Answers.{TextIs, Around, Least, NoNumber, LeastIs, EveryAnswer}
use Rattle.text_number_writer.proofs.Candidates.{passed, failed}

-- ---- one value
over : (n d c : ℕ) → n < most_number → d ≤ most_decimals → c ≡ 10 ^ d → div binary32 (of_int binary32 (pos n)) (of_int binary32 (pos c)) ≡ float_of false n d
over n d c h D e = ap (λ (z : ℕ). div binary32 (of_int binary32 (pos n)) (of_int binary32 (pos z))) e ∙ quotient n d h D

pub value-plain : (s : Bool) (n d c : ℕ) → (n < most_number) × (d ≤ most_decimals) → (c ≡ 10 ^ d) × (0 < c) → s ≡ false
    → div binary32 (of_int binary32 (pos n)) (of_int binary32 (pos c)) ≡ float_of s n d
value-plain s n d c h e f = over n d c h.0 h.1 e.0 ∙ ap (λ (b : Bool). float_of b n d) (sym f)

pub value-minus : (s : Bool) (n d c : ℕ) → (n < most_number) × (d ≤ most_decimals) → (c ≡ 10 ^ d) × (0 < c) → s ≡ true
    → neg (div binary32 (of_int binary32 (pos n)) (of_int binary32 (pos c))) ≡ float_of s n d
value-minus s n d c h e f = ap neg (over n d c h.0 h.1 e.0) ∙ minus-float n d ∙ ap (λ (b : Bool). float_of b n d) (sym f)

-- ---- with d decimals
pub first : (x : Float) (d n : ℕ) {b : Bool} → T (fits binary32 x) → d ≤ most_decimals → Around x d n × (n < 16777215) → b ≡ eq (float_of (sign_of x) n d) x → b ≡ true
    → LeastIs x d (Some n)
unfolding LeastIs Around
first x d n t D a e f = record {
  below = omega (arith, a.1);
  reads = passed x n d t (omega (arith, a.1)) D (sym e ∙ f);
  least = λ k l r. elim (a.0 k (omega (arith, a.1)) r) [ inl z ↦ omega arith | inr z ↦ omega arith ];
}

-- the first does not read as x, so only the next can
left : (x : Float) (d n k : ℕ) {b : Bool} → d ≤ most_decimals → Around x d n × (n < 16777215) → b ≡ eq (float_of (sign_of x) n d) x → b ≡ false
    → k < most_number → Reads x k d → k ≡ n + 1
unfolding Around
left x d n k D a e f h r =
    elim (a.0 k h r) [
      | inl z ↦ absurd (failed x n d (omega (arith, a.1)) D (sym e ∙ f) (subst (λ (m : ℕ). Reads x m d) z r))
      | inr z ↦ omega arith
    ]

pub second : (x : Float) (d n : ℕ) {b c : Bool} → T (fits binary32 x) → d ≤ most_decimals → Around x d n × (n < 16777215) → b ≡ eq (float_of (sign_of x) n d) x → b ≡ false
    → c ≡ eq (float_of (sign_of x) (n + 1) d) x → c ≡ true → LeastIs x d (Some (n + 1))
unfolding LeastIs
second x d n t D a e f g h = record {
  below = omega (arith, a.1);
  reads = passed x (n + 1) d t (omega (arith, a.1)) D (sym g ∙ h);
  least = λ k l r. omega (arith, left x d n k D a e f (omega (arith, a.1)) r);
}

pub neither : (x : Float) (d n : ℕ) {b c : Bool} → d ≤ most_decimals → Around x d n × (n < 16777215) → b ≡ eq (float_of (sign_of x) n d) x → b ≡ false
    → c ≡ eq (float_of (sign_of x) (n + 1) d) x → c ≡ false → LeastIs x d None
unfolding LeastIs
neither x d n D a e f g h k l r = failed x (n + 1) d (omega (arith, a.1)) D (sym g ∙ h) (subst (λ (m : ℕ). Reads x m d) (left x d n k D a e f l r) r)

-- ---- with any

-- fewer than d decimals write no x
pub record Looked (x : Float) (d : ℕ) : Type 0 where
  pub some : d ≤ 4
  pub none : (c : ℕ) → c < d → NoNumber x c

pub start : (x : Float) → Looked x 0
start x = record { some = omega arith; none = λ c h. absurd (let z : c < 0 = h in omega arith) }

pub on : (x : Float) (d : ℕ) {r : Option ℕ} → Looked x d → d < 4 → LeastIs x d r → r ≡ None → Looked x (d + 1)
unfolding LeastIs
on x d w h l e = record { some = omega arith; none = λ c k. elim (eq-or-lt_of_le (let z : c ≤ d = omega arith in z)) [ inl q ↦ subst (NoNumber x) (sym q) (subst (LeastIs x d) e l) | inr q ↦ w.none c q ] }

pub done : (x : Float) (d n : ℕ) {r : Option ℕ} → Looked x d → d < 4 → LeastIs x d r → r ≡ Some n → TextIs x (Some (n, d))
unfolding LeastIs TextIs
done x d n w h l e =
    let m : Least x d n = subst (LeastIs x d) e l in
    record { below = m.below; few = omega arith; reads = m.reads; fewest = λ k c g q r. w.none c q k g r; least = m.least }

pub never : (x : Float) (d : ℕ) → Looked x d → 4 ≤ d → TextIs x None
unfolding TextIs
never x d w h n c l g r = w.none c (omega arith) n l r

-- ---- its number

pub every-answer : EveryAnswer
unfolding TextIs
every-answer x (Some r) s =
    record { no_text = λ e. absurd (let z : ◌≡◌ {A = ℕ} 0 19 = e in omega arith); refused = λ h. absurd (h r.0 r.1 s.below s.few s.reads) }
every-answer x None s = record { no_text = λ e. s; refused = λ h. refl }
