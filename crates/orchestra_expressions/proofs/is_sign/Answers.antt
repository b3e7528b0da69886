use Rattle.orchestra_expressions.proofs.Moves.{sign-told}
use Rattle.std.proofs.Common.{rules}
use Rattle.orchestra_expressions.proofs.is_sign.Goals as goal

pub returns-in-Sign : goal.returns-in-Sign
returns-in-Sign c =
    search sign-told
