use native.Mathlib.Omega.{arith}
use Rattle.orchestra_lexer.proofs.Standing.{two_is}
use borrow.Author.Rules.{rules}
use Rattle.orchestra_lexer.proofs.two_at.Goals as goal

pub returns : goal.returns
returns c =
    record { low = omega arith; is = search two_is }
