-- One law for each way through the readers of spaces, the colon, words, and what stands behind a gap. Assumes nothing.
use Prim.Native.Nat.{ℕ, ◌+◌, ◌≤◌, ◌<◌}
use mathlib.Core.Path.{◌≡◌, refl, sym, ap, ap₂, ◌∙◌}
use mathlib.Core.Bool.{Bool, true, false}
use mathlib.Core.List.{List, [], ◌∷◌}
use native.Mathlib.Nat.{le_refl}
use native.Mathlib.Omega.{arith}
use borrow.Author.Tests.{eq-eqb, ne_eqb}
use lib.ListN.{length, get_or, drop}
use lib.Ieee.{Float}
use Rattle.base_laws.proofs.Choice.{cond-true, cond-false}
use Rattle.text_numerals.specs.inside.Reading.{Read, got, refused, starts_with, rest, number_from, name_from}
use Rattle.std.specs.Prelude.{Option, Some, None}
use Rattle.text_number_reader.specs.Results.{NumberAt, NameAt, Starts}
use Rattle.text_number_reader.proofs.Readers.{behind, read-as, read-no}
use Rattle.text_number_reader.proofs.Bytes.{here, past, rest-drop}
use Rattle.text_format.specs.inside.Reading.{past_spaces, gap_from, colon_from, word_from, next_name, next_number}
use Rattle.text_elements.specs.Passing.{passed_is, passed_told, PassedAt, SpacesPast, word_told, WordAt, EveryPassedAnswer}

-- ---- results

module _ (s : List ℕ) where
  passed-of : (p : ℕ) {x : Read (Unit {0})} → p ≤ length s → got tt (drop p s) ≡ x → PassedAt s x (Some p)
  unfolding passed_told
  passed-of p h e = record { told = ap Some (behind s p h) ∙ ap (passed_told s) e; is = e }

  passed_none : {x : Read (Unit {0})} → refused ≡ x → PassedAt s x None
  unfolding passed_told
  passed_none e = record { told = ap (passed_told s) e; is = e }

pub every-passed-answer : EveryPassedAnswer
unfolding passed_told
every-passed-answer s (got u after) = refl
every-passed-answer s refused = refl

-- ---- spaces

module _ (s : List ℕ) (at : ℕ) where
  -- the spaces from i on are the last of them
  pub record Spaces (i : ℕ) : Type 0 where
    pub same : past_spaces (drop i s) ≡ past_spaces (drop at s)
    pub upto : at ≤ length s → i ≤ length s

  pub spaces-start : Spaces at
  spaces-start = record { same = refl; upto = λ h. h }

  module _ (i : ℕ) (g : Spaces i) where
    module _ (h : i < length s) where
      pub spaces-stop : (get_or s i 0 ≡ 32 → ⊥) → SpacesPast s at i
      unfolding past_spaces
      spaces-stop n = record {
        is = here s i h ∙ sym (cond-false _ _ (ne_eqb (get_or s i 0) 32 n)) ∙ ap past_spaces (sym (here s i h)) ∙ g.same;
        within = λ k. omega arith;
      }

      pub spaces-on : get_or s i 0 ≡ 32 → Spaces (i + 1)
      unfolding past_spaces
      spaces-on n = record { same = sym (cond-true _ _ (eq-eqb (get_or s i 0) 32 n)) ∙ ap past_spaces (sym (here s i h)) ∙ g.same; upto = λ k. omega arith }

    pub spaces-end : length s ≤ i → SpacesPast s at (length s)
    unfolding past_spaces
    spaces-end h = record { is = past s (length s) (le_refl (length s)) ∙ ap past_spaces (sym (past s i h)) ∙ g.same; within = λ _. le_refl (length s) }

-- ---- a gap, a colon

module _ (s : List ℕ) (at : ℕ) {t : Bool} (g : Starts s at 32 t) where
  pub gap_is : t ≡ true → (p : ℕ) → SpacesPast s at p → PassedAt s (gap_from (drop at s)) (Some p)
  unfolding gap_from
  gap_is y p e = passed-of s p (e.within (let h = g.within y in omega arith)) (ap (got tt) e.is ∙ sym (cond-true _ _ (sym g.is ∙ y)))

  pub gap-no : t ≡ false → PassedAt s (gap_from (drop at s)) None
  unfolding gap_from
  gap-no y = passed_none s (sym (cond-false _ _ (sym g.is ∙ y)))

module _ (s : List ℕ) (at : ℕ) {p : ℕ} (e : SpacesPast s at p) {t : Bool} (g : Starts s p 58 t) where
  colon-there : starts_with 58 (past_spaces (drop at s)) ≡ t
  colon-there = ap (starts_with 58) (sym e.is) ∙ sym g.is

  pub colon-is : t ≡ true → (q : ℕ) → SpacesPast s (p + 1) q → PassedAt s (colon_from (drop at s)) (Some q)
  unfolding colon_from
  colon-is y q f =
      passed-of s q (f.within (let h = g.within y in omega arith))
      (ap (got tt) (f.is ∙ ap past_spaces (sym (ap rest (sym e.is) ∙ rest-drop s p))) ∙ sym (cond-true _ _ (colon-there ∙ y)))

  pub colon-no : t ≡ false → PassedAt s (colon_from (drop at s)) None
  unfolding colon_from
  colon-no y = passed_none s (sym (cond-false _ _ (colon-there ∙ y)))

-- ---- a word

module _ (s : List ℕ) (at : ℕ) (word : List ℕ) where
  pub record Matching (p i : ℕ) : Type 0 where
    pub upto : i ≤ length word
    pub on : p ≡ at + i
    pub same : word_from (drop i word) (drop p s) ≡ word_from word (drop at s)

  pub word-starts : Matching at 0
  word-starts = record { upto = omega arith; on = omega arith; same = refl }

  module _ (p i : ℕ) (m : Matching p i) (h : i < length word) {t : Bool} (g : Starts s p (get_or word i 0) t) where
    pub word_on : t ≡ true → Matching (p + 1) (i + 1)
    unfolding word_from starts_with
    word_on y =
        let k = g.within y in
        record {
          upto = omega arith;
          on = omega (arith, m.on);
          same =
              sym (cond-true _ _ (ap (starts_with (get_or word i 0)) (sym (here s p k)) ∙ sym g.is ∙ y)) ∙ ap₂ word_from (sym (here word i h)) (sym (here s p k)) ∙ m.same;
        }

    word-differs : t ≡ false → refused ≡ word_from word (drop at s)
    unfolding word_from starts_with
    word-differs y = sym (at_first (drop p s) (sym g.is ∙ y)) ∙ ap (λ (w : List ℕ). word_from w (drop p s)) (sym (here word i h)) ∙ m.same
      where
        at_first : (bs : List ℕ) → starts_with (get_or word i 0) bs ≡ false → word_from (get_or word i 0 ∷ drop (i + 1) word) bs ≡ refused
        at_first [] e = refl
        at_first (b ∷ bs) e = cond-false _ _ e

    pub word-no : t ≡ false → WordAt s (at + length word) (word_from word (drop at s)) None
    unfolding word_told
    word-no y = record { told = ap (word_told (at + length word)) (word-differs y); is = word-differs y }

  word-matches : (p i : ℕ) → Matching p i → length word ≤ i → got tt (drop p s) ≡ word_from word (drop at s)
  unfolding word_from
  word-matches p i m h = ap (λ (w : List ℕ). word_from w (drop p s)) (sym (past word i h)) ∙ m.same

  pub word-is : (p i : ℕ) → Matching p i → length word ≤ i → WordAt s (at + length word) (word_from word (drop at s)) (Some p)
  unfolding word_told
  word-is p i m h =
      let e : p ≡ at + length word = omega (arith, m.on, m.upto) in
      record { told = ap Some e ∙ ap (word_told (at + length word)) (word-matches p i m h); is = word-matches p i m h }

-- ---- behind a gap

pub passed-at : (s : List ℕ) {x : Read (Unit {0})} {r : Option ℕ} {p : ℕ} → passed_is s r ≡ x → r ≡ Some p → x ≡ got tt (drop p s)
passed-at s e f = sym e ∙ ap (passed_is s) f

pub passed-no : (s : List ℕ) {x : Read (Unit {0})} {r : Option ℕ} → passed_is s r ≡ x → r ≡ None → x ≡ refused
passed-no s e f = sym e ∙ ap (passed_is s) f

module _ (s : List ℕ) (at : ℕ) {r : Option ℕ} (e : passed_is s r ≡ gap_from (drop at s)) where
  pub name-next : {p : ℕ} {x : Option (ℕ × ℕ)} → r ≡ Some p → NameAt s (name_from (drop p s)) x → NameAt s (next_name (drop at s)) x
  unfolding next_name
  name-next f = read-as s (sym (rw (passed-at s e f)))

  pub name-none : r ≡ None → {x : Option (ℕ × ℕ)} → x ≡ None → NameAt s (next_name (drop at s)) x
  unfolding next_name
  name-none f = read-no s (sym (rw (passed-no s e f)))

  pub number-next : {p : ℕ} {x : Option (Float × ℕ)} → r ≡ Some p → NumberAt s (number_from (drop p s)) x → NumberAt s (next_number (drop at s)) x
  unfolding next_number
  number-next f = read-as s (sym (rw (passed-at s e f)))

  pub number-none : r ≡ None → {x : Option (Float × ℕ)} → x ≡ None → NumberAt s (next_number (drop at s)) x
  unfolding next_number
  number-none f = read-no s (sym (rw (passed-no s e f)))
