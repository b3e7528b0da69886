-- The second pass: the tokens go into the array one by one.
use Prim.Native.Nat.{ℕ, suc, ◌+◌, ◌-◌, ◌≤◌, ◌<◌}
use native.Mathlib.Omega.{arith}
use native.Mathlib.Decide.{dec_lt}
use native.Mathlib.Numerals.{add-one}
use mathlib.Core.Path.{◌≡◌, refl, sym, ap, ◌∙◌}
use mathlib.Core.Bool.{Bool, true, false, cond}
use mathlib.Core.List.{List, [], ◌∷◌, ◌++◌, map, append_assoc, map-append}
use lib.ListN.{length, get_or, take, drop, set, replicate, length-append, length-map, length-replicate, length-drop}
use lib.Seq.{drop-cons, take-suc, set_at, take_all, length-take-le}
use lib.Dec.{eqb}
use lib.Ieee.{Float}
use borrow.Author.Tests.{eqb-true, eqb-false}
use Rattle.std.specs.Prelude.{Ok}
use Rattle.orchestra_tokens.specs.Encoding.{valid}
use Rattle.orchestra_tokens.specs.inside.Scanning.{none, some, more, tokens_after, tokens_of, tokens_in}
use Rattle.orchestra_tokens.specs.inside.Passes.{standing, scanned}
use Rattle.orchestra_tokens.specs.inside.Reading.{padded, stored, judged}
use Rattle.orchestra_tokens.specs.declared.Token.{Token}
use Rattle.orchestra_tokens.specs.declared.Token.TheVariants.{Sign}
use Rattle.orchestra_tokens.proofs.RoundTrip.{impossible, with_first, with_rest}
use Rattle.orchestra_lexer.proofs.Judging.{Took, took}
use Rattle.orchestra_lexer.proofs.Passing.{left-next, left-bad, left_end, left-none}

-- bytes are left where tokens are
some-inside : (bs : List ℕ) (at : ℕ) (ts : List Token) → tokens_after 0 (drop at bs) ≡ some ts → at < length bs
some-inside bs at ts e = go (dec_lt at (length bs))
  where
    go : Dec (at < length bs) → at < length bs
    go (yes lt) = lt
    go (no n) = let f = left-none bs at (omega arith) in impossible (cc)

-- ---- the token that the tokens left begin with stands there

pub record Stands (bs : List ℕ) (at : ℕ) (t : Token) (ts : List Token) : Type 0 where
  pub inside : at < length bs
  pub fine : valid (standing bs at) ≡ true
  pub first : standing bs at ≡ t
  pub rest : tokens_after 0 (drop (at + 1 + more (get_or bs at 0)) bs) ≡ some ts

end_of : (b : Bool) (t : Token) (ts : List Token) → cond b (some []) none ≡ some (t ∷ ts) → ◌≡◌ {A = ℕ} 0 1
end_of true t ts e = cc
end_of false t ts e = cc

module _ (bs : List ℕ) (at : ℕ) (t : Token) (ts : List Token) (e : tokens_after 0 (drop at bs) ≡ some (t ∷ ts)) where
  by-law : (b : Bool) → valid (standing bs at) ≡ b → at < length bs → (get_or bs at 0 ≡ 0xff → ⊥) → Stands bs at t ts
  by-law false l lt n = let f = left-bad bs at lt (get_or bs at 0) refl n l in impossible (cc)
  by-law true l lt n =
      let g = tokens_after 0 (drop (at + 1 + more (get_or bs at 0)) bs) in
      let f = sym (left-next bs at lt (get_or bs at 0) refl n l) ∙ e in
      record { inside = lt; fine = l; first = with_first (standing bs at) g t ts f; rest = with_rest (standing bs at) g t ts f }

  by_end : (b : Bool) → eqb (get_or bs at 0) 0xff ≡ b → at < length bs → Stands bs at t ts
  by_end true q lt =
      let f = sym (left_end bs at lt (get_or bs at 0) refl (eqb-true (get_or bs at 0) 0xff q)) ∙ e in
      impossible (end_of (eqb (length bs - at) 1) t ts f)
  by_end false q lt = by-law (valid (standing bs at)) refl lt (eqb-false (get_or bs at 0) 0xff q)

  pub stands : Stands bs at t ts
  stands = by_end (eqb (get_or bs at 0) 0xff) refl (some-inside bs at (t ∷ ts) e)

-- ---- arrays

module _ {A : Type 0} where
  -- one more element goes in
  put_next : (d : A) (xs : List A) (n : ℕ) (v : A) → length xs ≡ n → n < 2048 → set (padded d xs) n v ≡ padded d (xs ++ v ∷ [])
  put_next d xs n v e h =
      let r = replicate 2048 d in
      let l : length (xs ++ v ∷ []) ≡ suc n = length-append xs (v ∷ []) ∙ omega arith in
      rw (e, l, drop-cons r n d (rw length-replicate h), set_at xs (get_or r n d) (drop (suc n) r) v n e, append_assoc xs (v ∷ []) (drop (suc n) r))

  pub length-padded : (d : A) (xs : List A) → length xs ≤ 2048 → length (padded d xs) ≡ 2048
  length-padded d xs h = length-append xs (drop (length xs) (replicate 2048 d)) ∙ rw (length-drop, length-replicate) (omega arith)

-- the array with the next token put in
put-token : (ts : List Token) (n : ℕ) (t : Token) → n < length ts → n < 2048 → t ≡ get_or ts n (Sign 0)
    → set (padded (Sign 0) (take n ts)) n t ≡ padded (Sign 0) (take (n + 1) ts)
put-token ts n t h k e =
    rw (e, add-one n, take-suc ts n (Sign 0) h) (put_next (Sign 0) (take n ts) n (get_or ts n (Sign 0)) (length-take-le n ts (omega arith)) k)

-- ---- the loop

pub record Filled (bs : List ℕ) (count : ℕ) (us : List Token) (at n : ℕ) : Type 0 where
  pub took-all : Took bs count
  pub within : n ≤ count
  pub inside : at < length bs
  pub left : tokens_after 0 (drop at bs) ≡ some (drop n (tokens_in (tokens_of bs)))
  pub tokens : us ≡ padded (Sign 0) (take n (tokens_in (tokens_of bs)))

pub starts : (bs : List ℕ) (count : ℕ) → scanned bs ≡ Ok count → Filled bs count (replicate 2048 (Sign 0)) 0 0
starts bs count e = let t = took bs count e in record { took-all = t; within = omega arith; inside = some-inside bs 0 (tokens_in (tokens_of bs)) t.some_is; left = t.some_is; tokens = refl }

module _ {bs : List ℕ} {count : ℕ} {us : List Token} {at n : ℕ} (i : Filled bs count us at n) where
  abbrev all : List Token
  all = tokens_in (tokens_of bs)

  here : n < count → Stands bs at (get_or all n (Sign 0)) (drop (n + 1) all)
  here lt =
      let h : n < length all = omega (arith, i.took-all.count-is) in
      let d : drop n all ≡ get_or all n (Sign 0) ∷ drop (n + 1) all = drop-cons all n (Sign 0) h ∙ ap (λ j. get_or all n (Sign 0) ∷ drop j all) (sym (add-one n)) in
      stands bs at (get_or all n (Sign 0)) (drop (n + 1) all) (i.left ∙ ap some d)

  pub valid-here : n < count → valid (standing bs at) ≡ true
  valid-here lt = (here lt).fine

  pub room-left : n < count → n < 2048
  room-left lt = omega (arith, i.took-all.room, i.took-all.count-is)

  pub again : {k m : ℕ} {t : Token} → n < count → t ≡ standing bs at → k ≡ get_or bs at 0 → m ≡ more k → Filled bs count (set us n t) (at + 1 + m) (n + 1)
  again {k = k} {m = m} {t = u} lt g e r =
      let s = here lt in
      let t = s.first in
      let h : n < length all = omega (arith, i.took-all.count-is) in
      let b = room-left lt in
      let a : at + 1 + m ≡ at + 1 + more (get_or bs at 0) = ap (λ (j : ℕ). at + 1 + j) (r ∙ ap more e) in
      let l = ap (λ (j : ℕ). tokens_after 0 (drop j bs)) a ∙ s.rest in
      record {
        took-all = i.took-all;
        within = omega arith;
        inside = some-inside bs (at + 1 + m) (drop (n + 1) all) l;
        left = l;
        tokens = ap (λ l. set l n u) i.tokens ∙ put-token all n u h b (g ∙ t);
      }

  pub ends : count ≤ n → judged (tokens_of bs) ≡ Ok (record { count = count; tokens = us })
  ends le =
      let c = i.took-all.count-is in
      let q = i.within in
      let e : take n all ≡ all = take_all n all (omega (arith, c, q)) in
      let p : record { count = count; tokens = us } ≡ stored all =
      λ j. record {
        count = c j;
        tokens = (i.tokens ∙ ap (padded (Sign 0)) e) j;
      } in
      i.took-all.judged-is ∙ ap Ok (sym p)
