-- What is read stands at the start: the bytes behind it are the last bytes. A value and a line leave fewer bytes. Assumes nothing.
use Prim.Native.Nat.{ℕ, ◌≤◌}
use mathlib.Core.Path.{◌≡◌, refl, sym, ap, ◌∙◌}
use mathlib.Core.List.{List, ◌++◌}
use native.Mathlib.Omega.{arith}
use lib.ListN.{length, drop, length-append}
use lib.Seq.{drop_at}
use lib.Ieee.{Float}
use Rattle.text_numerals.specs.inside.Reading.{Read, got, refused}
use Rattle.text_format.specs.Content.{Content}
use Rattle.text_format.specs.Form.{spaces, behind_bytes, behind_number, line_bytes}
use Rattle.text_format.specs.inside.Reading.{next_number, line_from}
use Rattle.text_format.proofs.Elements.{next-number-sound}
use Rattle.text_format.proofs.Lines.{line-sound}

-- the bytes behind at least n of them
pub record Behind (n : ℕ) (bs after : List ℕ) : Type 0 where
  pub passed : ℕ
  pub some_of : n ≤ passed
  pub within : passed ≤ length bs
  pub is : after ≡ drop passed bs

abbrev pub Leaves : {A : Type 0} → ℕ → List ℕ → Read A → Type 0
Leaves n bs (got a after) = Behind n bs after
Leaves n bs refused = Unit {0}

-- bytes that are encoded are passed
passed : (n : ℕ) (bs bytes after : List ℕ) → bs ≡ bytes ++ after → n ≤ length bytes → Behind n bs after
passed n bs bytes after e h =
    record {
      passed = length bytes;
      some_of = h;
      within = omega (arith, ap length e, length-append bytes after);
      is = sym
          (ap (drop (length bytes)) e ∙ drop_at bytes after (length bytes) refl);
    }

pub next-number-leaves : (bs : List ℕ) → Leaves 1 bs (next_number bs)
next-number-leaves bs = go (next_number bs) refl
  where
    go : (x : Read Float) → next_number bs ≡ x → Leaves 1 bs x
    go (got v after) e = let f = next-number-sound bs v after e in unfold behind_bytes spaces in passed 1 bs (behind_number f.one) after f.encodes (omega arith)
    go refused e = tt

pub line-leaves : (bs : List ℕ) → Leaves 1 bs (line_from bs)
line-leaves bs = go (line_from bs) refl
  where
    go : (x : Read Content) → line_from bs ≡ x → Leaves 1 bs x
    go (got s after) e = let f = line-sound bs s after e in unfold line_bytes in passed 1 bs (line_bytes f.one) after f.encodes (simp length-append (omega arith))
    go refused e = tt
