use Rattle.symbol_lookup.proofs.Walk.{is-noted, not_noted}
use Rattle.symbol_lookup.proofs.noted.Goals as goal

pub returns-then-symbol-wanted : goal.returns-then-symbol-wanted
returns-then-symbol-wanted c =
    search is-noted

pub returns : goal.returns
returns c =
    search not_noted
