-- Each way through the functions.
use mathlib.Core.Path.{◌≡◌, sym, ap, ◌∙◌}
use mathlib.Core.Bool.{Bool, true, false, not, ◌&&◌}
use mathlib.Core.List.{List}
use Prim.Native.Nat.{ℕ, ◌-◌, ◌≤◌, ◌<◌}
use lib.Dec.{leb}
use lib.ListN.{length, get_or}
use borrow.Author.Tests.{le-leb, lt-leb, lt-ltb, le-ltb, eq-eqb, ne_eqb, not-true, not-false}
use Rattle.base_laws.proofs.Choice.{cond-true, cond-false}
use Rattle.base_answer.specs.declared.Answer.TheVariants.{CutShort, OutOfRange, LeftOver, UnknownVersion}
use Rattle.settings_records.specs.Form.{Found}
use Rattle.settings_records.specs.Form.{sixteen_bits, setting, version_one_tempo, found, refused_as}
use Rattle.settings_records.specs.inside.Reading.{within_of, judged_of, of_version, behind_length, found_in}

pub low : (x most : ℕ) → x < 1 → false ≡ within_of x most
unfolding within_of
low x most h = sym (ap (λ (b : Bool). b && leb x most) (lt-leb 1 x h))

pub at_most : (x most : ℕ) → 1 ≤ x → leb x most ≡ within_of x most
unfolding within_of
at_most x most h = sym (ap (λ (b : Bool). b && leb x most) (le-leb 1 x h))

-- ---- a record's numbers

module _ (c n t size : ℕ) where
  pub bad-ceiling : {r : Found} → (b : Bool) → b ≡ within_of c 32767 → not b ≡ true → r ≡ refused_as OutOfRange → r ≡ judged_of c n t size
  unfolding judged_of
  bad-ceiling b e f q = q ∙ sym (cond-false _ _ (sym e ∙ not-true b f))

  module _ (b : Bool) (e : b ≡ within_of c 32767) (f : not b ≡ false) where
    pub bad-notes : {r : Found} → (b₂ : Bool) → b₂ ≡ within_of n 16 → not b₂ ≡ true → r ≡ refused_as OutOfRange → r ≡ judged_of c n t size
    unfolding judged_of
    bad-notes b₂ e₂ f₂ q = q ∙ sym (cond-true _ _ (sym e ∙ not-false b f) ∙ cond-false _ _ (sym e₂ ∙ not-true b₂ f₂))

    module _ (b₂ : Bool) (e₂ : b₂ ≡ within_of n 16) (f₂ : not b₂ ≡ false) where
      pub bad-tempo : {r : Found} → (b₃ : Bool) → b₃ ≡ within_of t 960 → not b₃ ≡ true → r ≡ refused_as OutOfRange → r ≡ judged_of c n t size
      unfolding judged_of
      bad-tempo b₃ e₃ f₃ q = q ∙ sym (cond-true _ _ (sym e ∙ not-false b f) ∙ cond-true _ _ (sym e₂ ∙ not-false b₂ f₂) ∙ cond-false _ _ (sym e₃ ∙ not-true b₃ f₃))

      pub all-good : (b₃ : Bool) → b₃ ≡ within_of t 960 → not b₃ ≡ false → found (setting c n t) size ≡ judged_of c n t size
      unfolding judged_of
      all-good b₃ e₃ f₃ = sym (cond-true _ _ (sym e ∙ not-false b f) ∙ cond-true _ _ (sym e₂ ∙ not-false b₂ f₂) ∙ cond-true _ _ (sym e₃ ∙ not-false b₃ f₃))

-- ---- a record

module _ (s : List ℕ) where
  pub read_short : {r : Found} → length s < 2 → r ≡ refused_as CutShort → r ≡ found_in s
  unfolding found_in
  read_short h q = q ∙ sym (cond-true _ _ (lt-ltb (length s) 2 h))

  module _ (h : 2 ≤ length s) {k : ℕ} (e : k ≡ sixteen_bits (get_or s 0 0) (get_or s 1 0)) where
    pub behind : behind_length s k ≡ found_in s
    unfolding found_in
    behind = ap (behind_length s) e ∙ sym (cond-false _ _ (le-ltb (length s) 2 h))

    pub read-cut : {r : Found} → length s - 2 < k → r ≡ refused_as CutShort → r ≡ found_in s
    unfolding behind_length
    read-cut l q = q ∙ sym (cond-true _ _ (lt-ltb (length s - 2) k l)) ∙ behind

    module _ (l : k ≤ length s - 2) where
      pub read-zero : {r : Found} → k ≡ 0 → r ≡ refused_as LeftOver → r ≡ found_in s
      unfolding behind_length
      read-zero z q = q ∙ sym (cond-false _ _ (le-ltb (length s - 2) k l) ∙ cond-true _ _ (eq-eqb k 0 z)) ∙ behind

      module _ (z : k ≡ 0 → ⊥) where
        pub version : of_version s k (get_or s 2 0) ≡ found_in s
        unfolding behind_length
        version = sym (cond-false _ _ (le-ltb (length s - 2) k l) ∙ cond-false _ _ (ne_eqb k 0 z)) ∙ behind

        pub read_one : {r : Found} → get_or s 2 0 ≡ 1 → k ≡ 4 → {c : ℕ} → c ≡ sixteen_bits (get_or s 3 0) (get_or s 4 0) → r ≡ judged_of c (get_or s 5 0) version_one_tempo 6 → r ≡ found_in s
        unfolding of_version
        read_one v w e₂ q =
            q ∙ ap (λ (x : ℕ). judged_of x (get_or s 5 0) version_one_tempo 6) e₂ ∙ sym (cond-true _ _ (eq-eqb (get_or s 2 0) 1 v) ∙ cond-true _ _ (eq-eqb k 4 w)) ∙ version

        pub read-one-length : {r : Found} → get_or s 2 0 ≡ 1 → (k ≡ 4 → ⊥) → r ≡ refused_as LeftOver → r ≡ found_in s
        unfolding of_version
        read-one-length v w q = q ∙ sym (cond-true _ _ (eq-eqb (get_or s 2 0) 1 v) ∙ cond-false _ _ (ne_eqb k 4 w)) ∙ version

        module _ (v : get_or s 2 0 ≡ 1 → ⊥) where
          pub read-two : {r : Found} → get_or s 2 0 ≡ 2 → k ≡ 6 → {c : ℕ} → c ≡ sixteen_bits (get_or s 3 0) (get_or s 4 0) → {t : ℕ} → t ≡ sixteen_bits (get_or s 6 0) (get_or s 7 0)
              → r ≡ judged_of c (get_or s 5 0) t 8 → r ≡ found_in s
          unfolding of_version
          read-two v₂ w e₂ e₃ q =
              q ∙ (λ i. judged_of (e₂ i) (get_or s 5 0) (e₃ i) 8)
              ∙ sym (cond-false _ _ (ne_eqb (get_or s 2 0) 1 v) ∙ cond-true _ _ (eq-eqb (get_or s 2 0) 2 v₂) ∙ cond-true _ _ (eq-eqb k 6 w)) ∙ version

          pub read-two-length : {r : Found} → get_or s 2 0 ≡ 2 → (k ≡ 6 → ⊥) → r ≡ refused_as LeftOver → r ≡ found_in s
          unfolding of_version
          read-two-length v₂ w q =
              q ∙ sym (cond-false _ _ (ne_eqb (get_or s 2 0) 1 v) ∙ cond-true _ _ (eq-eqb (get_or s 2 0) 2 v₂) ∙ cond-false _ _ (ne_eqb k 6 w)) ∙ version

          pub read-other : {r : Found} → (get_or s 2 0 ≡ 2 → ⊥) → r ≡ refused_as UnknownVersion → r ≡ found_in s
          unfolding of_version
          read-other v₂ q = q ∙ sym (cond-false _ _ (ne_eqb (get_or s 2 0) 1 v) ∙ cond-false _ _ (ne_eqb (get_or s 2 0) 2 v₂)) ∙ version
