-- What the placed tree means is what the tree as it is written means.
use Prim.Native.Nat.{ℕ, zero, suc, ◌+◌, ◌≤◌, ◌<◌}
use native.Mathlib.Omega.{arith}
use mathlib.Core.Path.{◌≡◌, refl, sym, ap, ◌∙◌, subst}
use mathlib.Core.Bool.{Bool, true, false, ◌&&◌, cond, true≢false}
use mathlib.Core.List.{List, [], ◌∷◌, ◌++◌}
use lib.ListN.{length, get_or, set, take, replicate, length-set, length-append, length-replicate}
use lib.Seq.{get_or-set_same, get_or-set_other, get_or-take, length-take-le}
use lib.Dec.{eqb}
use lib.Ieee.{Float, binary32, add, of_bits}
use borrow.Author.Tests.{eqb-true, eqb-false}
use Rattle.base_laws.proofs.Choice.{both_true}
use Rattle.orchestra_syntax.specs.Tree.{Expr, number, name, unary, binary, choose, Statements, done, assign, output, branch, Instrument}
use Rattle.orchestra_syntax.specs.Names.{Named, named, named_by, names_of, symbols, has, known_in, known, obeys_name_rules}
use Rattle.orchestra_syntax.specs.Rates.{Rate, i_rate, k_rate, a_rate, same, rate_of}
use Rattle.orchestra_syntax.specs.inside.Placed.{speed, place_of, place, put_in, put}
use Rattle.orchestra_syntax.proofs.Places.{kept, index, place_is, place-low, apart_in}
use Rattle.orchestra_syntax.proofs.Rates.{name-rate, speed-same}
use Rattle.base_float32.specs.Builtins.{zero_f, truth, select_of}
use Rattle.orchestra_signs.specs.Operators.{unary_does}
use Rattle.orchestra_semantics.specs.inside.Placed as placed
use Rattle.orchestra_semantics.specs.Meaning as M
use Rattle.orchestra_semantics.specs.Meaning.{Environment, Memory, Working, seen, assigned, with_output, value, pass, birth, a_passes, cycle}
use Rattle.orchestra_semantics.specs.inside.Translation.{body_of, Stands, Alike, ValueAgrees, PassAgrees, BirthAgrees, CycleAgrees}

-- ---- values and passes

pub value-agrees : ValueAgrees
unfolding placed.value value put_in known_in select_of
value-agrees ms vs v (number x) s e = refl
value-agrees ms vs v (name n) s e = s.holds n e
value-agrees ms vs v (unary o x) s e = ap (unary_does o) (value-agrees ms vs v x s e)
value-agrees ms vs v (binary o x y) s e =
    let p = both_true (known_in (symbols ms) x) (known_in (symbols ms) y) e in
    rw (value-agrees ms vs v x s p.0, value-agrees ms vs v y s p.1)
value-agrees ms vs v (choose c x y) s e =
    let p = both_true (known_in (symbols ms) c) (known_in (symbols ms) x && known_in (symbols ms) y) e in
    let q = both_true (known_in (symbols ms) x) (known_in (symbols ms) y) p.1 in
    rw (value-agrees ms vs v c s p.0, value-agrees ms vs v x s q.0, value-agrees ms vs v y s q.1)

module _ (ms : List Named) (few : length ms ≤ 16) where
  stands_set : (vs : List Float) (f : ℕ → Float) (n : ℕ) (x : Float) → has n (symbols ms) ≡ true → Stands ms vs f
      → Stands ms (set vs (place_of (place ms n)) x) (λ p. cond (eqb p n) x (f p))
  stands_set vs f n x h s =
      record { size = length-set vs (place_of (place ms n)) x ∙ s.size; holds = λ p g. go p g (eqb p n) refl }
    where
      go : (p : ℕ) → has p (symbols ms) ≡ true → (b : Bool) → eqb p n ≡ b → get_or (set vs (place_of (place ms n)) x) (place_of (place ms p)) zero_f ≡ cond b x (f p)
      go p g true e =
          ap (λ (q : ℕ). get_or (set vs (place_of (place ms n)) x) (place_of (place ms q)) zero_f) (eqb-true p n e)
          ∙ get_or-set_same vs (place_of (place ms n)) x zero_f (omega (arith, s.size, place-low n ms few h))
      go p g false e =
          get_or-set_other vs (place_of (place ms n)) (place_of (place ms p)) x zero_f (λ q. eqb-false p n e (apart_in ms p n few g h q))
          ∙ s.holds p g

  alike-if : (b : Bool) {s s' : placed.Sounding} {w w' : Working} → Alike ms s w → Alike ms s' w' → Alike ms (cond b s s') (cond b w w')
  alike-if true x y = x
  alike-if false x y = y

  assign-agrees : (r : Rate) (n : ℕ) (e : Expr) (s : placed.Sounding) (w : Working) → known_in (symbols ms) e ≡ true → has n (symbols ms) ≡ true → Alike ms s w
      → Alike ms (placed.assigned (speed r) (place ms n) (placed.value s.values (put_in ms e)) s) (cond (same (rate_of ms n) r) (assigned n e w) w)
  unfolding placed.assigned
  assign-agrees r n e s w p h x =
      rw (name-rate ms few n, speed-same (rate_of ms n) r, value-agrees ms s.values (seen w.memory) e x.memory p)
      (alike-if (same (rate_of ms n) r)
      (record { memory = stands_set s.values w.memory.values n (value (seen w.memory) e) h x.memory; sample = x.sample }) x)

  output-agrees : (r : Rate) (e : Expr) (s : placed.Sounding) (w : Working) → known_in (symbols ms) e ≡ true → Alike ms s w
      → Alike ms (placed.outputs (speed r) (placed.value s.values (put_in ms e)) s) (cond (same a_rate r) (with_output e w) w)
  unfolding placed.outputs
  output-agrees r e s w p x =
      rw (by-rate r, value-agrees ms s.values (seen w.memory) e x.memory p)
      (alike-if (same a_rate r) (record { memory = x.memory; sample = ap (λ z. add binary32 z (value (seen w.memory) e)) x.sample }) x)
    where
      by-rate : (r : Rate) → eqb (speed r) 2 ≡ same a_rate r
      by-rate i_rate = refl
      by-rate k_rate = refl
      by-rate a_rate = refl

  pass-at : (r : Rate) (t : Statements) (s : placed.Sounding) (w : Working) → known (symbols ms) t ≡ true → Alike ms s w
      → Alike ms (placed.pass (speed r) (put ms t) s) (pass ms r t w)
  unfolding placed.pass pass put known
  pass-at r done s w p x = x
  pass-at r (assign n e t) s w p x =
      let q = both_true (known_in (symbols ms) e && has n (symbols ms)) (known (symbols ms) t) p in
      let o = both_true (known_in (symbols ms) e) (has n (symbols ms)) q.0 in
      pass-at r t _ _ q.1 (assign-agrees r n e s w o.0 o.1 x)
  pass-at r (output e t) s w p x =
      let q = both_true (known_in (symbols ms) e) (known (symbols ms) t) p in
      pass-at r t _ _ q.1 (output-agrees r e s w q.0 x)
  pass-at r (branch e u v t) s w p x =
      let q = both_true (known_in (symbols ms) e) (known (symbols ms) u && (known (symbols ms) v && known (symbols ms) t)) p in
      let o = both_true (known (symbols ms) u) (known (symbols ms) v && known (symbols ms) t) q.1 in
      let l = both_true (known (symbols ms) v) (known (symbols ms) t) o.1 in
      let g = value (seen w.memory) e in
      pass-at r t _ _ l.1
      (rw (value-agrees ms s.values (seen w.memory) e x.memory q.0) (alike-if (truth g) (pass-at r u s w o.0 x) (pass-at r v s w l.0 x)))

pub pass-agrees : PassAgrees
pass-agrees x r s w e h = let q = kept x e in pass-at (names_of x) q.few r x.body s w q.declared h

-- ---- birth and cycles

get_d-zeros : (j p : ℕ) → get_or (replicate j zero_f) p zero_f ≡ zero_f
get_d-zeros zero p = refl
get_d-zeros (suc j) zero = refl
get_d-zeros (suc j) (suc p) = get_d-zeros j p

born-at : (fs : List ℕ) (rest : List Named) (vs : List Float) (j n : ℕ)
    → get_or (take (length fs) vs ++ replicate j zero_f) (index n (named 0 fs ++ rest)) zero_f ≡ M.fresh fs vs n
unfolding M.fresh named index
born-at [] rest vs j n = get_d-zeros j (index n rest)
born-at (f ∷ fs) rest [] j n = get_d-zeros j (index n (named 0 (f ∷ fs) ++ rest))
born-at (f ∷ fs) rest (x ∷ vs) j n = go (eqb f n) (born-at fs rest vs j n)
  where
    go : (b : Bool) → get_or (take (length fs) vs ++ replicate j zero_f) (index n (named 0 fs ++ rest)) zero_f ≡ M.fresh fs vs n
        → get_or (x ∷ (take (length fs) vs ++ replicate j zero_f)) (cond b 0 (suc (index n (named 0 fs ++ rest)))) zero_f ≡ cond b x (M.fresh fs vs n)
    go true h = refl
    go false h = h

fresh-stands : (x : Instrument) (vs : List Float) → obeys_name_rules x ≡ true
    → Stands (names_of x) (placed.fresh (take (length x.fields) vs)) (M.fresh x.fields vs)
unfolding placed.fresh
fresh-stands x vs e =
    let q = kept x e in
    let us = take (length x.fields) vs in
    record {
      size = length-take-le 16 (us ++ replicate 16 zero_f) (omega (arith, length-append us (replicate 16 zero_f), length-replicate 16 zero_f));
      holds = λ n h.
          get_or-take 16 (us ++ replicate 16 zero_f) (place_of (place (names_of x) n)) zero_f (place-low n (names_of x) q.few h)
          ∙ ap (λ (p : ℕ). get_or (us ++ replicate 16 zero_f) p zero_f) (place_is n (names_of x) q.few h)
          ∙ born-at x.fields (named_by x.declarations) vs 16 n;
    }

pub birth-agrees : BirthAgrees
unfolding placed.birth birth
birth-agrees x vs e =
    (pass-agrees x i_rate (placed.sounding (placed.fresh (take (length x.fields) vs)) zero_f) (record { memory = record { values = M.fresh x.fields vs }; sample = zero_f }) e
    (record { memory = fresh-stands x vs e; sample = refl })).memory

a-agree : (x : Instrument) (mix vs : List Float) (m : Memory) → obeys_name_rules x ≡ true → Stands (names_of x) vs m.values
    → Stands (names_of x) (placed.a_passes (body_of x) vs mix).values (a_passes x m mix).memory.values
    × ((placed.a_passes (body_of x) vs mix).mix ≡ (a_passes x m mix).mix)
unfolding placed.a_passes a_passes
a-agree x [] vs m e s = (s, refl)
a-agree x (y ∷ ys) vs m e s =
    let h = pass-agrees x a_rate (placed.sounding vs y) (record { memory = m; sample = y }) e (record { memory = s; sample = refl }) in
    let w = pass (names_of x) a_rate x.body (record { memory = m; sample = y }) in
    let t = placed.pass 2 (body_of x) (placed.sounding vs y) in
    let rest = a-agree x ys t.values w.memory e h.memory in
    (rest.0, rw (h.sample, rest.1))

pub cycle-agrees : CycleAgrees
unfolding placed.cycle placed.k_pass cycle
cycle-agrees x vs mix m e s =
    a-agree x mix (placed.k_pass (body_of x) vs) (pass (names_of x) k_rate x.body (record { memory = m; sample = zero_f })).memory e
    (pass-agrees x k_rate (placed.sounding vs zero_f) (record { memory = m; sample = zero_f }) e (record { memory = s; sample = refl })).memory
