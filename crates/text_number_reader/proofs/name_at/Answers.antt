use native.Mathlib.Omega.{arith}
use Rattle.text_number_reader.proofs.Readers.{name-symbol, no_name}
use Rattle.text_number_reader.proofs.name_at.Goals as goal

pub overflow_add-at : goal.overflow_add-at
overflow_add-at c =
    omega (arith, c.starts_with.ensures.within c.if-starts_with.true)

pub returns-then-starts_with : goal.returns-then-starts_with
returns-then-starts_with c =
    search name-symbol

pub returns : goal.returns
returns c =
    search no_name
