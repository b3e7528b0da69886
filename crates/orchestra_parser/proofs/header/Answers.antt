use borrow.Author.Rules.{rules}
use native.Mathlib.Omega.{arith}
use Rattle.orchestra_syntax.specs.inside.Program.{instr_op}
use Rattle.orchestra_expressions.specs.Reader.{seq, sign}
use Rattle.orchestra_expressions.proofs.Runs.{runs_seq, runs-sign, ready-sign, ready-less, ready-took}
use Rattle.orchestra_grammar.specs.Reader as R
use Rattle.orchestra_grammar.proofs.Steps.{name-took}
use Rattle.orchestra_parser.proofs.header.Goals as goal

pub name-a-requires : goal.name-a-requires
name-a-requires c =
    c.requires

pub fields-c-requires : goal.fields-c-requires
fields-c-requires c =
    let r₁ = ready-took 0 (name-took instr_op) c.requires c.name-a.ensures in
    ready-less (omega arith) (ready-sign 15 r₁ c.expect-b.ensures)

pub returns : goal.returns
returns c =
    runs_seq (λ p. seq (sign 15 p) (λ q. seq (R.fields q) (sign 16))) c.name-a.ensures
    (runs_seq (λ q. seq (R.fields q) (sign 16)) (runs-sign c.args.tokens.now 15 _ c.expect-b.ensures) (runs_seq (sign 16) c.fields-c.ensures (runs-sign c.args.tokens.now 16 _ c.expect.ensures)))
