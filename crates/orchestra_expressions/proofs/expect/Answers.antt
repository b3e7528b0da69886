use Rattle.std.proofs.Common.{sym, ◌∙◌, arith}
use Rattle.orchestra_expressions.proofs.Moves.{sign-in, passed_on, passed-no, passed-gone}
use Rattle.orchestra_expressions.proofs.expect.Goals as goal

pub overflow_add-result : goal.overflow_add-result
overflow_add-result c =
    let h = sign-in c.args.tokens.now c.in_ok-at.at c.args.s (sym c.sign_at.ensures ∙ c.if-sign_at.true) in
    omega (arith, c.well_formed.0.0)

pub returns-then-sign_at : goal.returns-then-sign_at
returns-then-sign_at c =
    passed_on _ c.args.s c.in_ok-at.was c.sign_at.ensures c.if-sign_at.true

pub returns-else-sign_at : goal.returns-else-sign_at
returns-else-sign_at c =
    passed-no _ c.args.s c.in_ok-at.was c.sign_at.ensures c.if-sign_at.false

pub returns-in_err-at : goal.returns-in_err-at
returns-in_err-at c =
    c.from_residual.ensures ∙ passed-gone _ c.args.s c.in_err-at.was
