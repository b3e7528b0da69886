use Rattle.symbol_lookup.proofs.Walk.{in-piece, in-own}
use Rattle.symbol_lookup.proofs.name_of.Goals as goal

pub returns-then-name-eq0 : goal.returns-then-name-eq0
returns-then-name-eq0 c =
    search in-own

pub returns : goal.returns
returns c =
    search in-piece
