use borrow.Author.Rules.{rules}
use native.Mathlib.Omega.{arith}
use Rattle.orchestra_syntax.specs.inside.Program.{ins_arg, store_op}
use Rattle.orchestra_expressions.specs.Reader.{reader, seq, sign}
use Rattle.orchestra_expressions.specs.Reader as E
use Rattle.orchestra_expressions.proofs.Runs.{runs_seq, runs-sign, runs-emit, ready-sign, ready-place, ready-less}
use Rattle.orchestra_statement_parser.proofs.Reading.{ready-expr}
use Rattle.orchestra_statement_parser.proofs.assignment.Goals as goal

pub expr-b-requires : goal.expr-b-requires
expr-b-requires c =
    ready-less (omega arith) (ready-sign 21 c.requires c.expect-a.ensures)

pub emit-requires : goal.emit-requires
emit-requires c =
    let r₂ = ready-expr 0 (ready-sign 21 c.requires c.expect-a.ensures) c.expr-b.ensures in
    ready-place (ready-sign 20 r₂ c.expect-c.ensures)

pub returns : goal.returns
returns c =
    let T = c.args.tokens.now in
    let r₃ = ready-sign 20 (ready-expr 0 (ready-sign 21 c.requires c.expect-a.ensures) c.expr-b.ensures) c.expect-c.ensures in
    runs_seq (λ p. seq (reader.expr 0 p) (λ q. seq (sign 20 q) (E.emit (ins_arg store_op c.args.n)))) (runs-sign T 21 c.args.got c.expect-a.ensures)
    (runs_seq (λ q. seq (sign 20 q) (E.emit (ins_arg store_op c.args.n))) c.expr-b.ensures (runs_seq (E.emit (ins_arg store_op c.args.n)) (runs-sign T 20 _ c.expect-c.ensures) (runs-emit (ins_arg store_op c.args.n) r₃ c.emit.ensures.answer c.emit.ensures.code)))
