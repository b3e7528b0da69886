use borrow.Author.Rules.{rules}
use native.Mathlib.Omega.{arith}
use Rattle.orchestra_expressions.specs.Reader.{seq}
use Rattle.orchestra_expressions.proofs.Runs.{runs_seq, runs-sign, ready-sign, ready-less, ready-took}
use Rattle.orchestra_grammar.specs.Reader as R
use Rattle.orchestra_grammar.proofs.Steps.{header-took}
use Rattle.orchestra_parser.proofs.instrument.Goals as goal

pub header-b-requires : goal.header-b-requires
header-b-requires c =
    ready-less (omega arith) (ready-sign 1 c.requires c.expect-a.ensures)

pub body-requires : goal.body-requires
body-requires c =
    let r₂ = ready-took 2 header-took (ready-sign 1 c.requires c.expect-a.ensures) c.header-b.ensures in
    ready-less (omega arith) r₂

pub returns : goal.returns
returns c =
    runs_seq (λ p. seq (R.header p) R.body) (runs-sign c.args.tokens.now 1 _ c.expect-a.ensures) (runs_seq R.body c.header-b.ensures c.body.ensures)
