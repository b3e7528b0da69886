-- A source that gives a list of fields, one after the other. Assumes nothing.
use Prim.Native.Nat.{ℕ, ◌^◌, ◌<◌, ◌≤◌}
use mathlib.Core.Path.{◌≡◌}
use mathlib.Core.List.{List, [], ◌∷◌}
use Rattle.std.specs.Prelude.{Some}
use Rattle.base_formats.specs.Format.{Source, Read, got, Field, of}

-- the source gives v in that width, and what follows holds at the position past it
pub record Step (s : Source) (width v at : ℕ) (Rest : ℕ → Type 0) : Type 0 where
  pub next : ℕ
  pub reads : s width at ≡ Some (v, next)
  pub then : Rest next

-- a width that a source can give, and that holds the number
pub record Fits (width v : ℕ) : Type 0 where
  pub some : 0 < width
  pub most : width ≤ 32
  pub small : v < 2 ^ width

-- the source gives these fields from a position to another, as far as their widths hold them
abbrev pub Gives : Source → ℕ → List Field → ℕ → Type 0
Gives s at [] p = at ≡ p
Gives s at (of width v ∷ fs) p = Fits width v → Step s width v at (λ q. Gives s q fs p)

-- a part was read, and what follows holds at the position past it
pub record Found {A : Type 0} (x : Read A) (a : A) (Rest : ℕ → Type 0) : Type 0 where
  pub next : ℕ
  pub is : x ≡ got a next
  pub then : Rest next

-- every number of 32 bits that the source gives is below 2 ^ 32
abbrev pub Bounded : Source → Type 0
Bounded s = (at v p : ℕ) → s 32 at ≡ Some (v, p) → v < 2 ^ 32
