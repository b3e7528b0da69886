use borrow.Author.Rules.{rules}
use native.Mathlib.Omega.{arith}
use Rattle.orchestra_syntax.specs.inside.Program.{ins}
use Rattle.orchestra_expressions.specs.Reader.{reader, seq, sign}
use Rattle.orchestra_expressions.specs.Reader as E
use Rattle.orchestra_expressions.proofs.Runs.{runs_seq, runs-sign, runs-emit, ready-sign, ready-place, ready-less}
use Rattle.orchestra_statement_parser.proofs.Reading.{ready-expr}
use Rattle.orchestra_statement_parser.proofs.bracketed.Goals as goal

pub expr-b-requires : goal.expr-b-requires
expr-b-requires c =
    ready-less (omega arith) (ready-sign 15 c.requires c.expect-a.ensures)

pub emit-requires : goal.emit-requires
emit-requires c =
    let r₃ = ready-sign 16 (ready-expr 0 (ready-sign 15 c.requires c.expect-a.ensures) c.expr-b.ensures) c.expect-c.ensures in
    ready-place (ready-sign c.args.s r₃ c.expect-d.ensures)

pub returns : goal.returns
returns c =
    let T = c.args.tokens.now in
    let r₃ = ready-sign 16 (ready-expr 0 (ready-sign 15 c.requires c.expect-a.ensures) c.expr-b.ensures) c.expect-c.ensures in
    let r₄ = ready-sign c.args.s r₃ c.expect-d.ensures in
    runs_seq (λ p. seq (reader.expr 0 p) (λ q. seq (sign 16 q) (λ r. seq (sign c.args.s r) (E.emit (ins c.args.op))))) (runs-sign T 15 c.args.got c.expect-a.ensures)
    (runs_seq (λ q. seq (sign 16 q) (λ r. seq (sign c.args.s r) (E.emit (ins c.args.op)))) c.expr-b.ensures
    (runs_seq (λ r. seq (sign c.args.s r) (E.emit (ins c.args.op))) (runs-sign T 16 _ c.expect-c.ensures)
    (runs_seq (E.emit (ins c.args.op)) (runs-sign T c.args.s _ c.expect-d.ensures) (runs-emit (ins c.args.op) r₄ c.emit.ensures.answer c.emit.ensures.code))))
