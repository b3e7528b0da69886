use borrow.Author.Rules.{rules}
use Rattle.orchestra_expressions.specs.Reader.{sign}
use Rattle.orchestra_expressions.proofs.Runs.{runs_seq, runs-sign}
use Rattle.orchestra_parser.proofs.listed.Goals as goal

pub names-a-requires : goal.names-a-requires
names-a-requires c =
    c.requires

pub returns : goal.returns
returns c =
    runs_seq (sign 20) c.names-a.ensures (runs-sign c.args.tokens.now 20 _ c.expect.ensures)
