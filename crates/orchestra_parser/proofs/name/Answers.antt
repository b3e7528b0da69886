use borrow.Author.Rules.{rules}
use native.Mathlib.Omega.{arith}
use mathlib.Core.Path.{refl}
use Rattle.orchestra_syntax.specs.inside.Program.{ins_arg}
use Rattle.orchestra_expressions.specs.Areas.{gone}
use Rattle.orchestra_expressions.proofs.Runs.{runs-emit, ready-place}
use Rattle.orchestra_parser.proofs.Reading.{word_in, ready-next, name-as, name-no}
use Rattle.orchestra_parser.proofs.name.Goals as goal

pub returns-in_err-at : goal.returns-in_err-at
returns-in_err-at c =
    gone c.in_err-at.was c.from_residual.ensures refl

pub overflow_add-at : goal.overflow_add-at
overflow_add-at c =
    let h = word_in c.args.tokens.now c.in_ok-at.at c.name_token_at.ensures c.in-Some.is in
    omega arith

pub emit-requires : goal.emit-requires
emit-requires c =
    let h = word_in c.args.tokens.now c.in_ok-at.at c.name_token_at.ensures c.in-Some.is in
    ready-place (ready-next c.requires c.in_ok-at.was h)

pub returns-in-Some : goal.returns-in-Some
returns-in-Some c =
    let r = ready-next c.requires c.in_ok-at.was (word_in c.args.tokens.now c.in_ok-at.at c.name_token_at.ensures c.in-Some.is) in
    name-as c.args.tokens.now c.args.op c.in_ok-at.at c.in_ok-at.was c.name_token_at.ensures c.in-Some.is (runs-emit (ins_arg c.args.op c.in-Some.n) r c.emit.ensures.answer c.emit.ensures.code)

pub returns-in-None : goal.returns-in-None
returns-in-None c =
    name-no c.args.tokens.now c.args.op c.in_ok-at.at c.in_ok-at.was c.name_token_at.ensures c.in-None.is
