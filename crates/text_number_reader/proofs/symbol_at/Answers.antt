use Rattle.text_number_reader.proofs.Readers.{symbol-fits, symbol-zero, symbol-none, symbol-is, symbol-no}
use Rattle.text_number_reader.proofs.symbol_at.Goals as goal

pub returns-then-starts_with : goal.returns-then-starts_with
returns-then-starts_with c =
    search symbol-zero

pub returns-in_err-symbol : goal.returns-in_err-symbol
returns-in_err-symbol c =
    search (symbol-no, c.in_err-symbol.was)

pub returns-then-count-eq0 : goal.returns-then-count-eq0
returns-then-count-eq0 c =
    search (symbol-none, c.in_ok-symbol.was)

pub overflow_cast-result : goal.overflow_cast-result
overflow_cast-result c =
    search (symbol-fits, c.in_ok-symbol.was)

pub returns : goal.returns
returns c =
    search (symbol-is, c.in_ok-symbol.was)
