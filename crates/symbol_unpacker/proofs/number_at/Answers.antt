use Rattle.symbol_unpacker.proofs.Steps.{number-there, number_short}
use Rattle.symbol_unpacker.proofs.number_at.Goals as goal

pub returns-in-Some : goal.returns-in-Some
returns-in-Some c =
    search number-there

pub returns-in-None : goal.returns-in-None
returns-in-None c =
    search number_short
