-- The bytes from a position on: the first of them, and those behind it. Assumes nothing.
use Prim.Native.Nat.{ℕ, zero, suc, ◌+◌, ◌≤◌, ◌<◌}
use mathlib.Core.Path.{◌≡◌, refl, sym, ap, ◌∙◌}
use mathlib.Core.Bool.{false, true≢false}
use mathlib.Core.List.{List, [], ◌∷◌}
use native.Mathlib.Numerals.{add-one}
use borrow.Author.Tests.{le-ltb}
use lib.Dec.{eqb, ltb}
use lib.ListN.{length, get_or, drop, drop_of_length-le}
use lib.Seq.{drop-cons}
use Rattle.text_numerals.specs.inside.Reading.{starts_with, rest}
use Rattle.text_number_reader.specs.Results.{Starts}

pub here : (s : List ℕ) (at : ℕ) → at < length s → drop at s ≡ get_or s at 0 ∷ drop (at + 1) s
here s at h = drop-cons s at 0 h ∙ ap (λ (n : ℕ). get_or s at 0 ∷ drop n s) (sym (add-one at))

pub past : (s : List ℕ) (at : ℕ) → length s ≤ at → drop at s ≡ []
past s at h = drop_of_length-le s {i = at} h

-- one byte on
pub rest-drop : (s : List ℕ) (at : ℕ) → rest (drop at s) ≡ drop (at + 1) s
unfolding rest
rest-drop s at = go s at ∙ ap (λ (n : ℕ). drop n s) (sym (add-one at))
  where
    go : (s : List ℕ) (at : ℕ) → rest (drop at s) ≡ drop (suc at) s
    go [] zero = refl
    go [] (suc at) = refl
    go (b ∷ bs) zero = refl
    go (b ∷ bs) (suc at) = go bs at

pub starts-here : (s : List ℕ) (at b : ℕ) → at < length s → Starts s at b (eqb (get_or s at 0) b)
unfolding starts_with
starts-here s at b h = record { is = sym (ap (starts_with b) (here s at h)); within = λ e. h }

pub starts-past : (s : List ℕ) (at b : ℕ) → length s ≤ at → Starts s at b (ltb at (length s))
unfolding starts_with
starts-past s at b h =
    let f : ltb at (length s) ≡ false = le-ltb at (length s) h in
    record { is = f ∙ sym (ap (starts_with b) (past s at h)); within = λ e. absurd (true≢false (sym e ∙ f)) }
