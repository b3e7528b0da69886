use borrow.Author.Rules.{rules}
use Rattle.orchestra_syntax.specs.inside.Program.{ins}
use Rattle.orchestra_expressions.specs.Reader as E
use Rattle.orchestra_expressions.proofs.Runs.{runs_seq, runs-sign, runs-emit, ready-sign, ready-place}
use Rattle.orchestra_statement_parser.proofs.block_end.Goals as goal

pub emit-requires : goal.emit-requires
emit-requires c =
    ready-place (ready-sign 18 c.requires c.expect-a.ensures)

pub returns : goal.returns
returns c =
    let T = c.args.tokens.now in
    let r₁ = ready-sign 18 c.requires c.expect-a.ensures in
    runs_seq (E.emit (ins c.args.op)) (runs-sign T 18 c.args.got c.expect-a.ensures) (runs-emit (ins c.args.op) r₁ c.emit.ensures.answer c.emit.ensures.code)
