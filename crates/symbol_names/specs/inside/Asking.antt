-- A list of names read; `ListRead` and `ListEncoded` tie it to its encoding. Definitions only.
use Rattle.std.specs.Prelude.{ℕ, zero, suc, cond, List, [], ◌∷◌, length, take, drop, leb}
use Rattle.std.proofs.Math.Option.{Option, none, some}
use Rattle.symbol_names.specs.Form.{Names, name_of}

abbrev pub before : List ℕ → Option Names → Option Names
before name none = none
before name (some names) = some (name ∷ names)

-- a length byte and that many bytes, then the others; no bytes are no names, and a list that is cut is none
abbrev pub entry_then : List ℕ → (List ℕ → Option Names) → Option Names
entry_then [] others = some []
entry_then (b ∷ s) others = cond (leb b (length s)) (before (take b s) (others (drop b s))) none

-- at most k names
unfoldable pub entries : ℕ → List ℕ → Option Names
entries zero s = entry_then s (λ r. none)
entries (suc k) s = entry_then s (entries k)

-- the names of a list; there are no more of them than bytes
unfoldable pub list_of : List ℕ → Option Names
unfolding entries
list_of s = entries (length s) s

abbrev pub name_among : Option Names → ℕ → List ℕ
name_among none symbol = []
name_among (some names) symbol = name_of names symbol

-- a symbol's name in a list; empty where it has none there
unfoldable pub name_in : List ℕ → ℕ → List ℕ
unfolding list_of
name_in s symbol = name_among (list_of s) symbol
