use Rattle.orchestra_lexer.proofs.Standing.{finite-is}
use Rattle.orchestra_lexer.proofs.is_finite.Goals as goal

pub returns : goal.returns
returns c =
    search finite-is
