-- The loop over a line's values. Assumes nothing.
use Prim.Native.Nat.{ℕ, zero, suc, ◌+◌, ◌-◌, ◌≤◌, ◌<◌}
use mathlib.Core.Path.{◌≡◌, refl, sym, ap, ◌∙◌}
use mathlib.Core.Bool.{Bool, true, false}
use mathlib.Core.List.{List, [], ◌∷◌, ◌++◌, append-nil}
use native.Mathlib.Omega.{arith}
use lib.ListN.{length, drop, length-append, length-drop}
use lib.Seq.{append_snoc}
use lib.Ieee.{Float}
use Rattle.base_laws.proofs.Choice.{cond-false}
use Rattle.text_numerals.specs.inside.Reading.{Read, got, refused, and_then, starts_with, rest}
use Rattle.std.specs.Prelude.{Option, Some, None}
use Rattle.text_number_reader.specs.Results.{Starts, number_is}
use Rattle.text_number_reader.proofs.Bytes.{rest-drop}
use Rattle.text_format.specs.inside.Reading.{next_number, values_from}
use Rattle.text_content.specs.Judged.{eight, kept_of, with_value}
use Rattle.text_content.specs.declared.ValueBits.{ValueBits}
use Rattle.text_content.proofs.Keeping.{kept_more}
use Rattle.text_event_reader.specs.Results.{position, values_told}
use Rattle.text_event_reader.proofs.Leaves.{next-number-leaves}

-- ---- what a call gave

pub number_of : (s : List ℕ) {x : Read Float} {r : Option (Float × ℕ)} {v : Float} {p : ℕ} → number_is s r ≡ x → r ≡ Some (v, p) → x ≡ got v (drop p s)
number_of s e f = sym e ∙ ap (number_is s) f

pub number-no : (s : List ℕ) {x : Read Float} {r : Option (Float × ℕ)} → number_is s r ≡ x → r ≡ None → x ≡ refused
number-no s e f = sym e ∙ ap (number_is s) f

-- the position past a byte that is there
pub next-position : (s : List ℕ) (p : ℕ) → p < length s → p + 1 ≡ position s (rest (drop p s))
next-position s p h = let e : p + 1 ≡ length s - length (drop (p + 1) s) = omega (arith, length-drop (p + 1) s) in cc (rest-drop s p)

-- a number leaves fewer bytes
pub fewer-left : (s : List ℕ) (p q : ℕ) {r : Option (Float × ℕ)} {x : Float} → number_is s r ≡ next_number (drop p s) → r ≡ Some (x, q) → length (drop q s) < length (drop p s)
fewer-left s p q {x = x} e f =
    let n = number_of s e f in
    let b = rw n at (next-number-leaves (drop p s)) in
    omega (arith, b.some_of, b.within, ap length b.is, length-drop b.passed (drop p s))

pub falls : (s : List ℕ) (p q : ℕ) {r : Option (Float × ℕ)} {x : Float} → number_is s r ≡ next_number (drop p s) → r ≡ Some (x, q) → length s - q < length s - p
falls s p q e f = omega (arith, fewer-left s p q e f, length-drop p s, length-drop q s)

-- ---- the loop

abbrev onward : List Float → Read (List Float) → Read (List Float)
onward done r = and_then r (λ vs q. got (done ++ vs) q)

no_more : (bs : List ℕ) → starts_with 10 bs ≡ true → 0 < length bs
unfolding starts_with
no_more [] e = absurd (let z : ◌≡◌ {A = ℕ} 0 1 = cc in omega arith)
no_more (b ∷ bs) e = omega arith

module _ (s : List ℕ) (at : ℕ) where
  -- the values so far, and that the bytes from p on give the others
  pub record Gathering (k : ValueBits) (p : ℕ) : Type 0 where
    pub done : List Float
    pub kept : k ≡ kept_of done
    pub room : length (drop p s) + length done ≤ length (drop at s)
    pub same : onward done (values_from (length (drop at s) - length done) (drop p s)) ≡ values_from (length (drop at s)) (drop at s)

  pub starts : {k : ValueBits} → k ≡ kept_of [] → Gathering k at
  starts e =
      record {
        done = [];
        kept = e;
        room = omega arith;
        same =
            let n : length (drop at s) - 0 ≡ length (drop at s) = omega arith in
            whole (values_from (length (drop at s) - 0) (drop at s)) ∙ ap (λ (j : ℕ). values_from j (drop at s)) n;
      }
    where
      whole : (x : Read (List Float)) → onward [] x ≡ x
      whole (got vs q) = refl
      whole refused = refl

  module _ (k : ValueBits) (p : ℕ) (g : Gathering k p) {t : Bool} (n : Starts s p 10 t) where
    pub ends : t ≡ true → Some (k, p + 1) ≡ values_told s (values_from (length (drop at s)) (drop at s))
    unfolding values_told values_from
    ends y =
        let h = no_more (drop p s) (sym n.is ∙ y) in
        let m : length (drop at s) - length g.done ≡ suc (length (drop at s) - length g.done - 1) = omega (arith, g.room) in
        let v : values_from (length (drop at s)) (drop at s) ≡ got g.done (rest (drop p s)) = cc (g.same, sym n.is ∙ y, append-nil g.done) in
        (λ i. Some (g.kept i, next-position s p (n.within y) i)) ∙ ap (values_told s) (sym v)

    module _ (y : t ≡ false) {r : Option (Float × ℕ)} (e : number_is s r ≡ next_number (drop p s)) where
      pub again : (x : Float) (q : ℕ) → r ≡ Some (x, q) → {l : ValueBits} → l ≡ with_value k x → Gathering l q
      unfolding values_from
      again x q f w =
          let bs = drop at s in
          let d = g.done in
          let h = fewer-left s p q e f in
          let c : length (d ++ (x ∷ [])) ≡ length d + 1 = length-append d (x ∷ []) in
          let m : length bs - length d ≡ suc (length bs - length (d ++ (x ∷ []))) = omega (arith, g.room) in
          let left = length bs - length (d ++ (x ∷ [])) in
          record {
            done = d ++ (x ∷ []);
            kept = w ∙ ap (λ (j : ValueBits). with_value j x) g.kept ∙ kept_more d x;
            room = omega (arith, g.room);
            same =
                regroup d x (values_from left (drop q s))
                ∙ sym (ap (onward d) (cond-false _ _ (sym n.is ∙ y) ∙ ap (λ (z : Read Float). and_then z (λ v r. and_then (values_from left r) (λ xs q. got (v ∷ xs) q)))
                (number_of s e f)))
                ∙ ap (λ (j : ℕ). onward d (values_from j (drop p s))) (sym m) ∙ g.same;
          }
        where
          regroup : (d : List Float) (x : Float) (z : Read (List Float)) → onward (d ++ (x ∷ [])) z ≡ onward d (and_then z (λ xs q. got (x ∷ xs) q))
          regroup d x (got vs q) = ap (λ (l : List Float). got l q) (append_snoc d x vs)
          regroup d x refused = refl

      pub stops : r ≡ None → {v : Option (ValueBits × ℕ)} → v ≡ None → v ≡ values_told s (values_from (length (drop at s)) (drop at s))
      unfolding values_told values_from
      stops f w = w ∙ ap (values_told s) (sym (go (length (drop at s) - length g.done)) ∙ g.same)
        where
          go : (j : ℕ) → onward g.done (values_from j (drop p s)) ≡ refused
          go zero = refl
          go (suc j) =
              ap (onward g.done) (cond-false _ _ (sym n.is ∙ y) ∙ ap (λ (z : Read Float). and_then z (λ x r. and_then (values_from j r) (λ xs q. got (x ∷ xs) q)))
              (number-no s e f))

pub none_kept : record { count = 0; bits = 0 ∷ (0 ∷ (0 ∷ (0 ∷ (0 ∷ (0 ∷ (0 ∷ (0 ∷ []))))))) } ≡ kept_of []
unfolding kept_of eight
none_kept = refl
