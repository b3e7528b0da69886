-- The ways through the small functions: what a token starts, past a sign, and one instruction more.
use Rattle.std.proofs.Common.{◌≡◌, ℕ, zero, suc, ◌+◌, ◌<◌, Bool, true, false, eqb, List, [], ◌∷◌, length, drop, set, pos, sym, refl, ap, ◌∙◌, arith}
use lib.Ieee.{Float, binary32, of_int}
use Rattle.orchestra_tokens.specs.declared.Token.{Token}
use Rattle.orchestra_tokens.specs.declared.Token.TheVariants.{Whole, Sign}
use Rattle.orchestra_syntax.specs.inside.Program.{Ins, number_op}
use Rattle.orchestra_expressions.specs.declared.PrefixToken.TheVariants.{Push}
use Rattle.std.specs.Prelude.{Some, None}
use Rattle.orchestra_expressions.specs.Roles.{prefix_of, is_sign, sign_l}
use Rattle.orchestra_expressions.specs.Areas.{ParseState, Areas, areas, stored_at, one_more, passed, Place}
use Rattle.std.proofs.lemmas.Option.{same_Some}

-- a reading has come to one place
pub same_at : {g : ParseState} {at out p o : ℕ} → g ≡ Some (at, out) → g ≡ Some (p, o) → at ≡ p
same_at e f = ap (λ (x : ℕ × ℕ). x.0) (same_Some _ _ (sym e ∙ f))

pub same_out : {g : ParseState} {at out p o : ℕ} → g ≡ Some (at, out) → g ≡ Some (p, o) → out ≡ o
same_out e f = ap (λ (x : ℕ × ℕ). x.1) (same_Some _ _ (sym e ∙ f))

pub whole-head : {t : Token} {w : ℕ} {x : Float} → t ≡ Whole w → x ≡ of_int binary32 (pos w) → Push number_op 0 x ≡ prefix_of t
whole-head e f = rw (e, f)

pub sign-told : {t : Token} {k : ℕ} (s : ℕ) → t ≡ Sign k → eqb k s ≡ is_sign t s
sign-told s e = rw e

-- what says more than past the end stands at a token
pub in-tokens : {A : Type 0} (f : List Token → A) (ts : List Token) (at : ℕ) → (f (drop at ts) ≡ f [] → ⊥) → at < length ts
in-tokens f [] zero n = absurd (n refl)
in-tokens f [] (suc at) n = absurd (n refl)
in-tokens f (t ∷ ts) zero n = omega arith
in-tokens f (t ∷ ts) (suc at) n = let h = in-tokens f ts at n in omega arith

pub sign-in : (ts : List Token) (at s : ℕ) → sign_l (drop at ts) s ≡ true → at < length ts
sign-in ts at s e = in-tokens (λ l. sign_l l s) ts at (λ n. let z : ◌≡◌ {A = ℕ} 0 1 = cc in omega arith)

module _ (ts : List Token) {g : ParseState} {at out : ℕ} (s : ℕ) {b : Bool} (q : g ≡ Some (at, out)) (e : b ≡ sign_l (drop at ts) s) where
  pub passed_on : b ≡ true → Some (at + 1, out) ≡ passed s ts g
  passed_on f = rw (q, ← e, f)

  pub passed-no : b ≡ false → None ≡ passed s ts g
  passed-no f = rw (q, ← e, f)

pub passed-gone : (ts : List Token) (s : ℕ) {g : ParseState} → g ≡ None → None ≡ passed s ts g
passed-gone ts s q = rw q

module _ {g : ParseState} {a b : List ℕ} {x : List Float} where
  pub place-ops : {at out : ℕ} → Place g (areas a b x) → g ≡ Some (at, out) → out < length a
  place-ops p q = omega (arith, (p.fits _ _ q).ops)

  pub place-args : {at out : ℕ} → Place g (areas a b x) → g ≡ Some (at, out) → out < length b
  place-args p q = omega (arith, (p.fits _ _ q).args)

  pub place-vals : {at out : ℕ} → Place g (areas a b x) → g ≡ Some (at, out) → out < length x
  place-vals p q = omega (arith, (p.fits _ _ q).vals)

pub more-on : {g : ParseState} {at out : ℕ} → g ≡ Some (at, out) → Some (at, out + 1) ≡ one_more g
more-on q = rw q

pub more-gone : {g : ParseState} → g ≡ None → None ≡ one_more g
more-gone q = rw q

pub stored_on : {g : ParseState} {at out : ℕ} (a b : List ℕ) (x : List Float) (o n : ℕ) (v : Float) → g ≡ Some (at, out)
    → areas (set a out o) (set b out n) (set x out v) ≡ stored_at g (areas a b x) (record { op = o; arg = n; val = v })
stored_on a b x o n v q = rw q

pub stored-gone : {g : ParseState} (m : Areas) (i : Ins) → g ≡ None → m ≡ stored_at g m i
stored-gone m i q = rw q
