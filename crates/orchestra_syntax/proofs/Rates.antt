-- The rate rules on placed names are the rate rules on declared names.
use Prim.Native.Nat.{ℕ, ◌≤◌, max}
use native.Mathlib.Omega.{arith}
use mathlib.Core.Path.{◌≡◌, refl, sym, ap, ◌∙◌}
use mathlib.Core.Bool.{Bool, true, false, ◌&&◌, cond}
use mathlib.Core.List.{List, [], ◌∷◌, map}
use lib.ListN.{length}
use lib.Dec.{leb, eqb}
use Rattle.base_laws.proofs.Choice.{both_true}
use Rattle.orchestra_syntax.specs.Tree.{Expr, number, name, unary, binary, choose, Statements, done, assign, output, branch, Instrument}
use Rattle.orchestra_syntax.specs.Names.{Named, names_of, obeys_name_rules, all_obey_name_rules, name_rules, distinct, title_of}
use Rattle.orchestra_syntax.specs.Rates.{Rate, i_rate, k_rate, a_rate, at_most, fastest, same, rate_of, rate, obeys_rate_rules, rate_rules}
use Rattle.orchestra_syntax.specs.inside.Placed as placed
use Rattle.orchestra_syntax.specs.inside.Placed.{speed, place, put_in, put}
use Rattle.orchestra_syntax.specs.inside.Translation.{RatesAgree}
use Rattle.orchestra_syntax.proofs.Places.{rate-is, kept}

pub speed-most : (r q : Rate) → leb (speed r) (speed q) ≡ at_most r q
speed-most i_rate i_rate = refl
speed-most i_rate k_rate = refl
speed-most i_rate a_rate = refl
speed-most k_rate i_rate = refl
speed-most k_rate k_rate = refl
speed-most k_rate a_rate = refl
speed-most a_rate i_rate = refl
speed-most a_rate k_rate = refl
speed-most a_rate a_rate = refl

speed-fastest : (r q : Rate) → max (speed r) (speed q) ≡ speed (fastest r q)
speed-fastest i_rate i_rate = refl
speed-fastest i_rate k_rate = refl
speed-fastest i_rate a_rate = refl
speed-fastest k_rate i_rate = refl
speed-fastest k_rate k_rate = refl
speed-fastest k_rate a_rate = refl
speed-fastest a_rate i_rate = refl
speed-fastest a_rate k_rate = refl
speed-fastest a_rate a_rate = refl

pub speed-same : (r q : Rate) → eqb (speed r) (speed q) ≡ same r q
speed-same i_rate i_rate = refl
speed-same i_rate k_rate = refl
speed-same i_rate a_rate = refl
speed-same k_rate i_rate = refl
speed-same k_rate k_rate = refl
speed-same k_rate a_rate = refl
speed-same a_rate i_rate = refl
speed-same a_rate k_rate = refl
speed-same a_rate a_rate = refl

module _ (ms : List Named) (few : length ms ≤ 16) where
  pub name-rate : (n : ℕ) → placed.rate_of (place ms n) ≡ speed (rate_of ms n)
  name-rate n = rate-is 0 n ms (omega arith)

  expr-rate : (e : Expr) → placed.rate (put_in ms e) ≡ speed (rate ms e)
  unfolding placed.rate rate put_in
  expr-rate (number x) = refl
  expr-rate (name n) = name-rate n
  expr-rate (unary o e) = expr-rate e
  expr-rate (binary o e f) = rw (expr-rate e, expr-rate f) (speed-fastest (rate ms e) (rate ms f))
  expr-rate (choose c e f) =
      rw (expr-rate c, expr-rate e, expr-rate f, speed-fastest (rate ms e) (rate ms f)) (speed-fastest (rate ms c) (fastest (rate ms e) (rate ms f)))

  body-rates : (g : Rate) (t : Statements) → placed.obeys_rate_rules (speed g) (put ms t) ≡ obeys_rate_rules ms g t
  unfolding placed.obeys_rate_rules obeys_rate_rules put
  body-rates g done = refl
  body-rates g (assign n e t) = rw (expr-rate e, name-rate n, speed-most (rate ms e) (rate_of ms n), speed-most g (rate_of ms n), body-rates g t)
  body-rates g (output e t) = rw (speed-most g a_rate, body-rates g t)
  body-rates g (branch e u v t) =
      let h = fastest g (rate ms e) in
      rw (expr-rate e, speed-fastest g (rate ms e), body-rates h u, body-rates h v, body-rates g t)

each-agrees : (xs : List Instrument) → all_obey_name_rules xs ≡ true → placed.rate_rules xs ≡ rate_rules xs
unfolding all_obey_name_rules placed.rate_rules rate_rules
each-agrees [] e = refl
each-agrees (x ∷ xs) e =
    let p = both_true (obeys_name_rules x) (all_obey_name_rules xs) e in
    rw (body-rates (names_of x) (kept x p.0).few i_rate x.body, each-agrees xs p.1)

pub rates-agree : RatesAgree
rates-agree xs e =
    each-agrees xs (both_true (distinct (map title_of xs)) (all_obey_name_rules xs) (both_true (leb (length xs) 8) (distinct (map title_of xs) && all_obey_name_rules xs) e).1).1
