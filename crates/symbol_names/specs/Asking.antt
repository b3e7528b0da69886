-- A symbol's name in the piece's list, else in the panel's own; what unpacking leaves. Definitions only.
use Rattle.std.specs.Prelude.{ℕ, cond, List, [], ◌∷◌, ◌++◌, length, drop, leb}
use Rattle.base_answer.specs.declared.Answer.{Answer}
use Rattle.base_answer.specs.declared.Answer.TheVariants.{Taken, NoRoom}
use Rattle.symbol_names.specs.Form.{list_bytes, Table, holds, refused}
use Rattle.symbol_names.specs.inside.Asking.{name_in}

-- ---- asking

abbrev pub unless_empty : List ℕ → List ℕ → List ℕ
unless_empty [] other = other
unless_empty (b ∷ name) other = b ∷ name

-- in the piece's names, else in the panel's own list
unfoldable pub name_found : ℕ → List ℕ → List ℕ → List ℕ
unfolding name_in
name_found symbol piece own = unless_empty (name_in piece symbol) (name_in own symbol)

-- ---- unpacking: an answer, the whole length of the names, and what the lent buffer then holds

pub record Unpacking : Type 0 where
  pub answer : Answer
  pub length-of : ℕ
  pub buffer : List ℕ

abbrev pub unpacking : Answer → ℕ → List ℕ → Unpacking
unpacking a n b = record { answer = a; length-of = n; buffer = b }

-- bytes laid over the start of a buffer; what lies past them stays
unfoldable pub laid : List ℕ → List ℕ → List ℕ
laid bytes buffer = bytes ++ drop (length bytes) buffer

unfoldable pub unpacking_of : Table → List ℕ → Unpacking
unfolding laid
unpacking_of (holds names) old =
    cond (leb (length (list_bytes names)) (length old)) (unpacking Taken (length (list_bytes names)) (laid (list_bytes names) old)) (unpacking NoRoom 0 old)
unpacking_of (refused a) old = unpacking a 0 old
