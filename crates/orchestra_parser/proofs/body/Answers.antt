use borrow.Author.Rules.{rules}
use native.Mathlib.Omega.{arith}
use Rattle.orchestra_expressions.specs.Reader.{seq, sign}
use Rattle.orchestra_expressions.proofs.Runs.{runs_seq, runs-sign, ready-sign, ready-less, ready-took}
use Rattle.orchestra_grammar.specs.Reader as R
use Rattle.orchestra_parser.proofs.Reading.{declarations-took}
use Rattle.orchestra_parser.proofs.body.Goals as goal

pub declarations-b-requires : goal.declarations-b-requires
declarations-b-requires c =
    ready-less (omega arith) (ready-sign 17 c.requires c.expect-a.ensures)

pub statements-c-requires : goal.statements-c-requires
statements-c-requires c =
    let r₁ = ready-sign 17 c.requires c.expect-a.ensures in
    ready-less (omega arith) (ready-took 0 declarations-took r₁ c.declarations-b.ensures)

pub returns : goal.returns
returns c =
    runs_seq (λ p. seq (R.declarations p) (λ q. seq (R.statements q) (sign 18))) (runs-sign c.args.tokens.now 17 _ c.expect-a.ensures)
    (runs_seq (λ q. seq (R.statements q) (sign 18)) c.declarations-b.ensures (runs_seq (sign 18) c.statements-c.ensures (runs-sign c.args.tokens.now 18 _ c.expect.ensures)))
