-- Unpacked names, asked for. Assumes nothing.
use Prim.Native.Nat.{ℕ, ◌≤◌}
use mathlib.Core.Path.{◌≡◌, refl, ap, ◌∙◌}
use mathlib.Core.List.{List}
use borrow.Author.Tests.{le-leb}
use lib.ListN.{length, drop}
use lib.Seq.{take_at}
use Rattle.base_laws.proofs.Choice.{cond-true}
use Rattle.base_answer.specs.declared.Answer.TheVariants.{Taken}
use Rattle.symbol_names.specs.Form.{Names, list_bytes, Table, holds}
use Rattle.symbol_names.specs.inside.Reading.{table_of}
use Rattle.symbol_names.specs.inside.Asking.{name_in}
use Rattle.symbol_names.specs.Asking.{name_found, unless_empty, unpacking_of, unpacking, Unpacking, laid}
use Rattle.symbol_names.specs.Claims.{piece, NamesFound}
use Rattle.symbol_names.proofs.Table.{table-read}
use Rattle.symbol_names.proofs.Lists.{name-in-list}

pub unpacked : (names : Names) (old : List ℕ) → length (list_bytes names) ≤ length old
    → unpacking_of (holds names) old ≡ unpacking Taken (length (list_bytes names)) (laid (list_bytes names) old)
unfolding unpacking_of
unpacked names old h = cond-true _ _ (le-leb _ _ h)

pub names-found : NamesFound
unfolding name_found laid
names-found bytes buffer own names h room symbol =
    let b = list_bytes names in
    let e : unpacking_of (table_of bytes) buffer ≡ unpacking Taken (length b) (laid b buffer) =
    ap (λ (t : Table). unpacking_of t buffer) (table-read bytes names h) ∙ unpacked names buffer room in (
      ap (λ (u : Unpacking). u.answer) e,
      ap (λ (u : Unpacking). u.length-of) e,
      ap (λ (u : Unpacking). unless_empty (name_in (piece u) symbol) (name_in own symbol)) e
          ∙ ap (λ (s : List ℕ). unless_empty (name_in s symbol) (name_in own symbol)) (take_at b (drop (length b) buffer) (length b) refl)
          ∙ ap (λ (n : List ℕ). unless_empty n (name_in own symbol)) (name-in-list names symbol),
    )
