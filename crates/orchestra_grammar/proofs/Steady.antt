-- A reader that calls itself for fewer tokens is its own next step, however deep it is followed.
use Prim.Native.Nat.{ℕ, zero, suc, ◌+◌, ◌-◌, ◌≤◌, ◌<◌}
use native.Mathlib.Nat.{suc-add}
use native.Mathlib.Omega.{arith}
use mathlib.Core.Path.{◌≡◌, refl, sym, ap, ◌∙◌}
use mathlib.Core.List.{List, [], ◌∷◌}
use mathlib.Core.Bool.{Bool, true, false, cond}
use lib.ListN.{length, drop, length-append}
use Rattle.orchestra_tokens.specs.declared.Token.{Token}
use Rattle.orchestra_syntax.specs.inside.Program.{Ins}
use Rattle.orchestra_expressions.specs.Roles.{sign_l}
use Rattle.orchestra_expressions.specs.Reader.{Res, ok, seq}
use Rattle.orchestra_grammar.specs.Reader.{deep, whole}
use Rattle.orchestra_expressions.proofs.ReaderSteps.{All, none, some, All-weaken, All-seq, All-if, seq-same}
use Rattle.orchestra_expressions.proofs.Runs.{Took}

-- a reader that reads no more instructions than tokens
abbrev pub Bounded : (List Token → Res) → Type 0
Bounded S = (us : List Token) → All (Took 0 us) (S us)

-- A step takes k tokens more than it gives instructions, but for d, of a reader so bounded; and it calls its reader after i tokens only.
pub record Steady (k d i : ℕ) (F : (List Token → Res) → List Token → Res) : Type 0 where
  pub took : (S : List Token → Res) → Bounded S → (ts : List Token) → All (λ c r. length c + k + length r ≤ length ts + d) (F S ts)
  pub same : (S R : List Token → Res) → Bounded S → (b : ℕ) → ((us : List Token) → length us < b → S us ≡ R us) → (ts : List Token) → length ts < i + b → F S ts ≡ F R ts

pub steady-less : {k d i l e : ℕ} {F : (List Token → Res) → List Token → Res} → l + d ≤ k + e → Steady k d i F → Steady l e i F
steady-less le s = record { took = λ S B ts. All-weaken (s.took S B ts) (λ c r h. omega arith); same = s.same }

-- a reading that calls no reader, and the reader itself
pub fixed : {k : ℕ} (i : ℕ) {g : List Token → Res} → ((ts : List Token) → All (Took k ts) (g ts)) → Steady k 0 i (λ S. g)
fixed i h = record { took = λ S B ts. All-weaken (h ts) (λ c r t. omega (arith, t.room)); same = λ S R B b A ts lt. refl }

pub self : Steady 0 0 0 (λ S. S)
self = record { took = λ S B ts. All-weaken (B ts) (λ c r t. omega (arith, t.room)); same = λ S R B b A ts lt. A ts (omega arith) }

-- one after the other
pub then : {k d i l e j : ℕ} {F G : (List Token → Res) → List Token → Res} → Steady k d i F → Steady l e j G → i + d ≤ k + j
    → Steady (k + l) (d + e) i (λ S ts. seq (F S ts) (G S))
then s t le = record {
  took = λ S B ts. All-seq _ (s.took S B ts) (λ c r h. All-weaken (t.took S B r) (λ u q g. simp length-append (omega arith)));
  same = λ S R B b A ts lt. seq-same _ _ (s.took S B ts) (s.same S R B b A ts lt) (λ c r h. t.same S R B b A r (omega arith));
}

cond-alike : (b : Bool) (x y z w : Res) → (b ≡ true → x ≡ z) → y ≡ w → cond b x y ≡ cond b z w
cond-alike true x y z w f g = f refl
cond-alike false x y z w f g = g

sign-passed : (s : ℕ) (ts : List Token) → sign_l ts s ≡ true → length (drop 1 ts) < length ts
sign-passed s [] e = absurd (let z : ◌≡◌ {A = ℕ} 0 1 = cc in omega arith)
sign-passed s (t ∷ ts) e = omega arith

-- past a sign if it is there
pub where-sign : (s : ℕ) {k d i : ℕ} {F G : (List Token → Res) → List Token → Res} → Steady k d i F → Steady (suc k) d (suc i) G
    → Steady (suc k) d (suc i) (λ S ts. cond (sign_l ts s) (F S (drop 1 ts)) (G S ts))
where-sign s f g = record {
  took = λ S B ts. All-if s ts _ _ (λ r e. All-weaken (f.took S B r) (λ c q h. omega (arith, ap length e))) (g.took S B ts);
  same = λ S R B b A ts lt. cond-alike (sign_l ts s) _ _ _ _ (λ e. f.same S R B b A (drop 1 ts) (omega (arith, sign-passed s ts e))) (g.same S R B b A ts lt);
}

-- past a first token, whatever it is
pub past_first : {F : (List Token → Res) → List Token → Res} → ((S : List Token → Res) → F S [] ≡ ok [] []) → ((t : Token) → Steady 0 1 0 (λ S ts. F S (t ∷ ts)))
    → Steady 0 0 1 F
past_first {F} e h = record { took = tk; same = sm }
  where
    tk : (S : List Token → Res) → Bounded S → (ts : List Token) → All (λ c r. length c + 0 + length r ≤ length ts + 0) (F S ts)
    tk S B [] = rw (e S) (some {c = []} {r = []} (omega arith))
    tk S B (t ∷ ts) = All-weaken ((h t).took S B ts) (λ c r z. omega arith)

    sm : (S R : List Token → Res) → Bounded S → (b : ℕ) → ((us : List Token) → length us < b → S us ≡ R us) → (ts : List Token) → length ts < 1 + b → F S ts ≡ F R ts
    sm S R B b A [] lt = e S ∙ sym (e R)
    sm S R B b A (t ∷ ts) lt = (h t).same S R B b A ts (omega arith)

module _ (step : (List Token → Res) → List Token → Res) (L : Steady 0 0 1 step) where
  deep-took : (n : ℕ) → Bounded (deep step n)
  unfolding deep
  deep-took zero ts = none
  deep-took (suc n) ts = All-weaken (L.took (deep step n) (deep-took n) ts) (λ c r h. record { room = omega arith })

  pub whole-took : Bounded (whole step)
  unfolding whole
  whole-took ts = deep-took (suc (length ts)) ts

  deep-agree : (n k : ℕ) (ts : List Token) → length ts < n → deep step n ts ≡ deep step (n + k) ts
  unfolding deep
  deep-agree zero k ts lt = absurd (omega arith)
  deep-agree (suc n) k ts lt =
      rw suc-add (L.same (deep step n) (deep step (n + k)) (deep-took n) n (λ us le. deep-agree n k us le) ts (omega arith))

  whole_agree : (n : ℕ) (ts : List Token) → length ts < n → deep step n ts ≡ whole step ts
  unfolding whole
  whole_agree n ts lt =
      let e : suc (length ts) + (n - suc (length ts)) ≡ n = omega arith in
      sym (rw e at (deep-agree (suc (length ts)) (n - suc (length ts)) ts (omega arith)))

  -- the reader's equation
  pub whole·law : (ts : List Token) → whole step ts ≡ step (whole step) ts
  unfolding whole deep
  whole·law ts = L.same (deep step (length ts)) (whole step) (deep-took (length ts)) (length ts) (λ us le. whole_agree (length ts) us le) ts (omega arith)

-- what every step makes of a reader that has it holds of the whole
pub whole-all : (step : (List Token → Res) → List Token → Res) (P : List Token → List Ins → List Token → Type 0)
    → ((S : List Token → Res) → ((us : List Token) → All (P us) (S us)) → (ts : List Token) → All (P ts) (step S ts))
    → (ts : List Token) → All (P ts) (whole step ts)
unfolding whole deep
whole-all step P h ts = go (suc (length ts)) ts
  where
    go : (n : ℕ) (us : List Token) → All (P us) (deep step n us)
    go zero us = none
    go (suc n) us = h (deep step n) (go n) us
