-- Where a symbol's name stands in a list. Definitions only.
use Rattle.std.specs.Prelude.{ℕ, ◌-◌, ◌≤◌, ◌≡◌, List, length, take, drop}
use Rattle.symbol_names.specs.inside.Asking.{name_in}
use Rattle.std.specs.declared.ops.Range.{Range}

-- the bytes from one place to another
unfoldable pub between : List ℕ → Range ℕ → List ℕ
between s p = take (p.end - p.start) (drop p.start s)

-- a symbol's name in a list stands there; a stretch of no bytes says that there is none
pub record Stands (s : List ℕ) (symbol : ℕ) (p : Range ℕ) : Type 0 where
  pub ordered : p.start ≤ p.end
  pub within : p.end ≤ length s
  pub name : between s p ≡ name_in s symbol
