-- The first pass: the tokens of the bytes that are left, token by token.
use Prim.Native.Nat.{ℕ, suc, ◌+◌, ◌-◌, ◌≤◌, ◌<◌}
use native.Mathlib.Omega.{arith}
use native.Mathlib.Numerals.{add-one}
use mathlib.Core.Path.{◌≡◌, refl, sym, ap, ◌∙◌, subst}
use mathlib.Core.Bool.{Bool, true, false, not, ◌&&◌, ◌||◌, cond, and_assoc, and_comm}
use mathlib.Core.List.{List, [], ◌∷◌}
use lib.ListN.{length, get_or, drop, length-drop, drop_of_length-le}
use lib.Seq.{drop-cons, drop-drop}
use lib.Dec.{eqb, leb}
use borrow.Author.Tests.{eq-eqb, ne_eqb, not-true, not-false}
use Rattle.base_laws.proofs.Choice.{and-swap}
use Rattle.base_answer.specs.declared.Answer.TheVariants.{BadToken}
use Rattle.orchestra_tokens.specs.Encoding.{valid}
use Rattle.orchestra_tokens.specs.inside.Scanning.{Scanned, none, some, with, ended, more, tokens_after}
use Rattle.orchestra_tokens.specs.Measures.{kind_of, opened, since, brackets_within, stretches_within}
use Rattle.orchestra_tokens.specs.inside.Passes.{standing, next, closed_of, finished, start, scanned}
use Rattle.orchestra_tokens.specs.declared.Token.{Token}
use Rattle.orchestra_tokens.specs.declared.Measure.{Measure}
use Rattle.std.specs.Prelude.{Result, Err}
use Rattle.base_answer.specs.declared.Answer.{Answer}
use Rattle.orchestra_tokens.proofs.RoundTrip.{after-drop}
use Rattle.orchestra_lexer.proofs.Standing.{kind-is}

-- ---- the tokens of the bytes left at a place

module _ (bs : List ℕ) (at : ℕ) (lt : at < length bs) where
  left_is : tokens_after 0 (drop at bs) ≡ tokens_after 0 (get_or bs at 0 ∷ drop (at + 1) bs)
  left_is = ap (tokens_after 0) (drop-cons bs at 0 lt ∙ ap (λ n. get_or bs at 0 ∷ drop n bs) (sym (add-one at)))

  pub left-next : (k : ℕ) → k ≡ get_or bs at 0 → (k ≡ 0xff → ⊥) → valid (standing bs at) ≡ true
      → tokens_after 0 (drop at bs) ≡ with (standing bs at) (tokens_after 0 (drop (at + 1 + more k) bs))
  unfolding tokens_after
  left-next k e a l =
      left_is ∙ rw (← e, ne_eqb k 0xff a, e, l) (ap (with (standing bs at)) (after-drop (more (get_or bs at 0)) (drop (at + 1) bs) ∙ ap (tokens_after 0) (drop-drop (more (get_or bs at 0)) (at + 1) bs)))

  pub left-bad : (k : ℕ) → k ≡ get_or bs at 0 → (k ≡ 0xff → ⊥) → valid (standing bs at) ≡ false → tokens_after 0 (drop at bs) ≡ none
  unfolding tokens_after
  left-bad k e a l = left_is ∙ rw (← e, ne_eqb k 0xff a, e, l)

  ended_by : (l : List ℕ) (n : ℕ) → length l + 1 ≡ n → ended l ≡ cond (eqb n 1) (some []) none
  ended_by [] n e = rw (eq-eqb n 1 (omega arith))
  ended_by (b ∷ l) n e = rw (ne_eqb n 1 (λ f. omega arith))

  pub left_end : (k : ℕ) → k ≡ get_or bs at 0 → k ≡ 0xff → tokens_after 0 (drop at bs) ≡ cond (eqb (length bs - at) 1) (some []) none
  unfolding tokens_after
  left_end k e a =
      left_is ∙ rw (← e, a) (ended_by (drop (at + 1) bs) (length bs - at) (omega (arith, length-drop (at + 1) bs)))

pub left-none : (bs : List ℕ) (at : ℕ) → length bs ≤ at → tokens_after 0 (drop at bs) ≡ none
unfolding tokens_after
left-none bs at h = ap (tokens_after 0) (drop_of_length-le bs {i = at} h)

-- ---- one token more

regroup : (f a b l x y : Bool) → (f && (l && ((a && x) && (b && y)))) ≡ ((f && (a && b)) && (l && (x && y)))
regroup f a b l x y = simp (and_assoc, and_comm, and-swap)

one_more : (c n : ℕ) → c + suc n ≡ c + 1 + n
one_more c n = omega arith

pub finished-with : (m : Measure) (t : Token) (g : Scanned) → finished m (with t g) ≡ finished (next m (kind_of t)) g
unfolding next brackets_within stretches_within
finished-with m t none = refl
finished-with m t (some ts) =
    let k = kind_of t in
    let d = opened m.depth k in
    let r = since m.run k in
    rw (one_more m.count (length ts), regroup m.fits (leb d 24) (leb r 128) (leb (m.count + 1 + length ts) 2048) (brackets_within d ts) (stretches_within r ts))

-- both arms of a choice are at most n
cond-le : (b : Bool) {x y n : ℕ} → x ≤ n → y ≤ n → cond b x y ≤ n
cond-le true h k = h
cond-le false h k = k

opened-le : (n k : ℕ) → opened n k ≤ n + 1
unfolding opened
opened-le n k = cond-le (eqb k 15 || eqb k 17) (omega arith) (cond-le (eqb k 16 || eqb k 18) (omega arith) (omega arith))

since-le : (n k : ℕ) → since n k ≤ n + 1
unfolding since
since-le n k = cond-le (eqb k 20 || (eqb k 17 || eqb k 18)) (omega arith) (omega arith)

-- ---- the loop

pub record Inv (bs : List ℕ) (m : Measure) (at : ℕ) : Type 0 where
  pub inside : at ≤ length bs + 4
  pub counted : m.count ≤ at
  pub nested : m.depth ≤ at
  pub ran : m.run ≤ at
  pub is : finished m (tokens_after 0 (drop at bs)) ≡ scanned bs

pub starts : (bs : List ℕ) → Inv bs start 0
unfolding scanned
starts bs = record { inside = omega arith; counted = omega arith; nested = omega arith; ran = omega arith; is = refl }

more-le : (k : ℕ) → more k ≤ 4
more-le k = cond-le (eqb k 0xf0) (omega arith) (cond-le (eqb k 0xf1) (omega arith) (cond-le (eqb k 0xf2) (omega arith) (omega arith)))

module _ {bs : List ℕ} {m : Measure} {at : ℕ} (i : Inv bs m at) where
  stepped : (k : ℕ) → at < length bs → k ≡ get_or bs at 0 → (k ≡ 0xff → ⊥) → valid (standing bs at) ≡ true → Inv bs (next m k) (at + 1 + more k)
  unfolding next
  stepped k lt e a l =
      let g = tokens_after 0 (drop (at + 1 + more k) bs) in
      record {
        inside = omega (arith, more-le k);
        counted = omega (arith, i.counted);
        nested = omega (arith, opened-le m.depth k, i.nested);
        ran = omega (arith, since-le m.run k, i.ran);
        is = ap (λ (x : ℕ). finished (next m x) g) (sym (kind-is bs at k e)) ∙ sym (finished-with m (standing bs at) g) ∙ ap (finished m) (sym (left-next bs at lt k e a l)) ∙ i.is;
      }

  pub again : {m' : Measure} (n k : ℕ) {b : Bool} → at < length bs → k ≡ get_or bs at 0 → (k ≡ 0xff → ⊥) → b ≡ valid (standing bs at) → not b ≡ false
      → m' ≡ next m k → n ≡ more k → Inv bs m' (at + 1 + n)
  again n k {b} lt e a p q u w =
      subst (λ (x : Measure). Inv bs x (at + 1 + n)) (sym u)
      (subst (λ (x : ℕ). Inv bs (next m k) (at + 1 + x)) (sym w) (stepped k lt e a (sym p ∙ not-false b q)))

  pub ends-closed : {f : Result ℕ Answer} (k : ℕ) → at < length bs → k ≡ get_or bs at 0 → k ≡ 0xff → f ≡ closed_of m (length bs - at) → f ≡ scanned bs
  ends-closed k lt e a u = u ∙ ap (finished m) (sym (left_end bs at lt k e a)) ∙ i.is

  pub ends-bad : (k : ℕ) {b : Bool} → at < length bs → k ≡ get_or bs at 0 → (k ≡ 0xff → ⊥) → b ≡ valid (standing bs at) → not b ≡ true
      → Err BadToken ≡ scanned bs
  ends-bad k {b} lt e a p q = ap (finished m) (sym (left-bad bs at lt k e a (sym p ∙ not-true b q))) ∙ i.is

  pub ends-short : length bs ≤ at → Err BadToken ≡ scanned bs
  ends-short h = ap (finished m) (sym (left-none bs at h)) ∙ i.is
