-- Fields as keypad numbers: where they stand, and what they are read as. Assumes nothing.
use Prim.Native.Nat.{ℕ, suc, ◌+◌, ◌-◌, ◌^◌, ◌<◌}
use mathlib.Core.Path.{◌≡◌, refl, sym, ap, ap₂, ◌∙◌, subst}
use mathlib.Core.Bool.{Bool, true, false}
use mathlib.Core.List.{List, [], ◌∷◌, ◌++◌}
use native.Mathlib.Numerals.{add-one}
use native.Mathlib.Nat.{add-zero}
use native.Mathlib.Omega.{arith}
use borrow.Author.Tests.{lt-ltb, ltb-true}
use lib.Dec.{ltb}
use lib.ListN.{length, get_or, drop, length-drop}
use lib.Seq.{drop-drop, drop-cons, get_or-drop}
use Rattle.base_bitstream.specs.Fields.{pick}
use Rattle.std.specs.Prelude.{Option, Some, None}
use Rattle.std.proofs.lemmas.Option.{same_Some, none-some}
use Rattle.base_formats.specs.Format.{keypad_source, Field, of, field_words}
use Rattle.base_formats.proofs.Gives.{Gives, Bounded}
use Rattle.base_formats.proofs.InBits.{Small}

-- what the keypad gives is the next number
record Next (words : List ℕ) (at v p : ℕ) : Type 0 where
  within : at < length words
  value : get_or words at 0 ≡ v
  past : p ≡ at + 1

next_of : (words : List ℕ) (width at v p : ℕ) → keypad_source words width at ≡ Some (v, p) → Next words at v p
unfolding keypad_source
next_of words width at v p e = go (ltb at (length words)) refl e
  where
    go : (t : Bool) → ltb at (length words) ≡ t → pick {A = Option (ℕ × ℕ)} t (Some (get_or words at 0, at + 1)) None ≡ Some (v, p) → Next words at v p
    go true h k =
        let r = same_Some _ _ k in
        record { within = ltb-true at (length words) h; value = ap (λ (x : ℕ × ℕ). x.0) r; past = sym (ap (λ (x : ℕ × ℕ). x.1) r) }
    go false h k = absurd (none-some (v, p) k)

pub words-bounded : (words : List ℕ) → ((i : ℕ) → get_or words i 0 < 2 ^ 32) → Bounded (keypad_source words)
words-bounded words h at v p e = let n = next_of words 32 at v p e in subst (λ (x : ℕ). x < 2 ^ 32) n.value (h at)

-- where the numbers of fields stand, the fields are given
pub words-there : (words : List ℕ) (fs : List Field) (at p : ℕ) (rest : List ℕ) → at + length fs ≡ p → drop at words ≡ field_words fs ++ rest → Gives (keypad_source words) at fs p
unfolding field_words keypad_source
words-there words [] at p rest e d = omega arith
words-there words (of w v ∷ fs) at p rest e d =
    let n : length words - at ≡ suc (length (field_words fs ++ rest)) = sym (length-drop at words) ∙ ap length d in
    let h : at < length words = omega arith in
    let g : get_or words at 0 ≡ v = ap (λ (k : ℕ). get_or words k 0) (sym (add-zero at)) ∙ sym (get_or-drop at words 0 0) ∙ ap (λ (l : List ℕ). get_or l 0 0) d in
    let r : drop (at + 1) words ≡ field_words fs ++ rest = sym (drop-drop 1 at words) ∙ ap (drop 1) d in
    λ f. record { next = at + 1; reads = rw (lt-ltb at (length words) h, g); then = words-there words fs (at + 1) p rest (omega arith) r }

-- fields that are given stand there as numbers
pub words_back : (words : List ℕ) (fs : List Field) (at p : ℕ) → Small fs → Gives (keypad_source words) at fs p → (drop at words ≡ field_words fs ++ drop p words) × (p ≡ at + length fs)
unfolding field_words
words_back words [] at p h g = (ap (λ (x : ℕ). drop x words) g, omega arith)
words_back words (of w v ∷ fs) at p h f =
    let g = f h.0 in
    let n = next_of words w at v g.next g.reads in
    let k = words_back words fs g.next p h.1 g.then in
    (drop-cons words at 0 n.within ∙ ap₂ (λ (x : ℕ) (l : List ℕ). x ∷ l) n.value (ap (λ (j : ℕ). drop j words) (sym (n.past ∙ add-one at)) ∙ k.0), omega (arith, k.1, n.past))

pub length-words : (fs : List Field) → length (field_words fs) ≡ length fs
unfolding field_words
length-words [] = refl
length-words (of w v ∷ fs) = ap suc (length-words fs)
