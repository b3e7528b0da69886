-- What the tests of `abs` tell of a float. Assumes nothing.
use Rattle.std.proofs.Common.{◌≡◌, ℕ, zero, suc, ◌+◌, ◌*◌, ◌<◌, ◌≤◌, Bool, true, false, cond, ◌&&◌, T, ℤ, sym, refl, ◌∙◌, true≢false, arith, ltb-false, ltb-true, eq-eqb, eqb-true}
use borrow.Table.Steps.{cases}
use lib.Ieee.{Float, nan, inf, fin, fits, lt, eq, neg, of_bits, binary32, up, down}
use lib.Ieee.Back.{whole_unique}
use Rattle.base_float32.specs.Builtins.{abs_of, zero_f}

and-true-l : (a b : Bool) → a && b ≡ true → a ≡ true
and-true-l true b e = refl
and-true-l false b e = e

fits-abs : (s : Bool) (m : ℕ) (e : ℤ) → T (fits binary32 (fin s m e)) → T (fits binary32 (fin false m e))
unfolding fits
fits-abs s zero e t = t
fits-abs s (suc m) e t = t

abs-below : (x : Float) → lt x zero_f ≡ true → neg x ≡ abs_of x
unfolding lt neg abs_of of_bits
abs-below nan e = cc
abs-below (inf true) e = refl
abs-below (inf false) e = cc
abs-below (fin true m d) e = refl
abs-below (fin false m d) e = absurd (let h : m * up d * 1 < 0 * down d = ltb-true _ _ e in omega arith)

abs-zero : (x : Float) → T (fits binary32 x) → eq x zero_f ≡ true → zero_f ≡ abs_of x
unfolding eq abs_of fits of_bits
abs-zero nan t e = cc
abs-zero (inf s) t e = cc
abs-zero (fin s m d) t e =
    let h : m * up d * 1 ≡ 0 * down d = eqb-true _ _ (and-true-l _ _ e) in
    whole_unique binary32 zero_f (fin false m d) false 0 tt (fits-abs s m d t) (refl, refl) (refl, h)

abs-above : (x : Float) → lt x zero_f ≡ false → eq x zero_f ≡ false → x ≡ abs_of x
unfolding lt eq abs_of of_bits
abs-above nan e f = refl
abs-above (inf true) e f = cc
abs-above (inf false) e f = refl
abs-above (fin false m d) e f = refl
abs-above (fin true m d) e f =
    let h : m * up d * 1 + 0 * down d ≤ 0 = ltb-false _ _ e in
    let z : m * up d * 1 ≡ 0 = omega arith in
    let w : m * up d * 1 ≡ 0 * down d = omega arith in
    absurd (true≢false (sym (simp (eq-eqb _ _ w, eq-eqb _ _ z)) ∙ f))

pub abs_is : (x : Float) → T (fits binary32 x) → cond (eq x zero_f) zero_f (cond (lt x zero_f) (neg x) x) ≡ abs_of x
abs_is x t =
    cases (eq x zero_f) (λ e. cc (abs-zero x t e)) (λ e. cases (lt x zero_f) (λ f. cc (abs-below x f)) (λ f. cc (abs-above x f e)))
