-- The proof of the cycle of calls {expr, last, more}: each call is made at fewer tokens left.
use Rattle.std.proofs.Common.{◌≡◌, ℕ, ◌+◌, ◌<◌, length, refl, sym, ◌∙◌, arith}
use native.Mathlib.Nat.{pos_of_ne-zero}
use Rattle.std.specs.Prelude.{None}
use Rattle.orchestra_expressions.proofs.Runs.{runs_to, past-place, past-sign, past-emit, past-passed}
use Rattle.orchestra_expression_parser.proofs.Reading.{head_in, tail-in, tail-small, head-past, tail-past, past-expr, past-last, falls, last_none, last-is, push-is, unary-is, open_is, call-is, call2-is, expr-bad, binary-is, choice-is, stop-binary, stop-question, stop-here}
use Rattle.orchestra_expression_parser.proofs.+expr_last_more.Goals as goal

pub expr-overflow_add-at : goal.expr-overflow_add-at
expr-overflow_add-at t c =
    let lt : c.in_ok-at.at < length c.args.tokens.now = head_in c.args.tokens.now c.in_ok-at.at c.prefix_at.ensures c.in-Push.is tt in
    omega arith

pub expr-more-requires : goal.expr-more-requires
expr-more-requires t c =
    falls (past-emit _ (head-past c.args.tokens.now c.in_ok-at.at c.requires c.decreases c.in_ok-at.was c.prefix_at.ensures c.in-Push.is tt) c.emit-a.ensures.answer c.emit-a.ensures.code)

pub expr-overflow_add-at-in-Unary : goal.expr-overflow_add-at-in-Unary
expr-overflow_add-at-in-Unary t c =
    let lt : c.in_ok-at.at < length c.args.tokens.now = head_in c.args.tokens.now c.in_ok-at.at c.prefix_at.ensures c.in-Unary.is tt in
    omega arith

pub expr-expr-a-requires : goal.expr-expr-a-requires
expr-expr-a-requires t c =
    falls (head-past c.args.tokens.now c.in_ok-at.at c.requires c.decreases c.in_ok-at.was c.prefix_at.ensures c.in-Unary.is tt)

pub expr-emit-b-requires : goal.expr-emit-b-requires
expr-emit-b-requires t c =
    past-place (past-expr _ (head-past c.args.tokens.now c.in_ok-at.at c.requires c.decreases c.in_ok-at.was c.prefix_at.ensures c.in-Unary.is tt) c.expr-a.ensures)

pub expr-more-requires-in-Unary : goal.expr-more-requires-in-Unary
expr-more-requires-in-Unary t c =
    falls (past-emit _ (past-expr _ (head-past c.args.tokens.now c.in_ok-at.at c.requires c.decreases c.in_ok-at.was c.prefix_at.ensures c.in-Unary.is tt) c.expr-a.ensures) c.emit-b.ensures.answer c.emit-b.ensures.code)

pub expr-overflow_add-at-in-Open : goal.expr-overflow_add-at-in-Open
expr-overflow_add-at-in-Open t c =
    let lt : c.in_ok-at.at < length c.args.tokens.now = head_in c.args.tokens.now c.in_ok-at.at c.prefix_at.ensures c.in-Open.is tt in
    omega arith

pub expr-expr-a-requires-in-Open : goal.expr-expr-a-requires-in-Open
expr-expr-a-requires-in-Open t c =
    falls (head-past c.args.tokens.now c.in_ok-at.at c.requires c.decreases c.in_ok-at.was c.prefix_at.ensures c.in-Open.is tt)

pub expr-more-requires-in-Open : goal.expr-more-requires-in-Open
expr-more-requires-in-Open t c =
    falls (past-sign 16 (past-expr _ (head-past c.args.tokens.now c.in_ok-at.at c.requires c.decreases c.in_ok-at.was c.prefix_at.ensures c.in-Open.is tt) c.expr-a-in-Open.ensures) c.expect-b.ensures)

pub expr-overflow_add-at-in-Call : goal.expr-overflow_add-at-in-Call
expr-overflow_add-at-in-Call t c =
    let lt : c.in_ok-at.at < length c.args.tokens.now = head_in c.args.tokens.now c.in_ok-at.at c.prefix_at.ensures c.in-Call.is tt in
    omega arith

pub expr-last-a-requires : goal.expr-last-a-requires
expr-last-a-requires t c =
    falls (head-past c.args.tokens.now c.in_ok-at.at c.requires c.decreases c.in_ok-at.was c.prefix_at.ensures c.in-Call.is tt)

pub expr-more-requires-in-Call : goal.expr-more-requires-in-Call
expr-more-requires-in-Call t c =
    falls (past-last _ _ (head-past c.args.tokens.now c.in_ok-at.at c.requires c.decreases c.in_ok-at.was c.prefix_at.ensures c.in-Call.is tt) c.last-a.ensures)

pub expr-overflow_add-at-in-Call2 : goal.expr-overflow_add-at-in-Call2
expr-overflow_add-at-in-Call2 t c =
    let lt : c.in_ok-at.at < length c.args.tokens.now = head_in c.args.tokens.now c.in_ok-at.at c.prefix_at.ensures c.in-Call2.is tt in
    omega arith

pub expr-expr-b-requires : goal.expr-expr-b-requires
expr-expr-b-requires t c =
    falls (past-sign 15 (head-past c.args.tokens.now c.in_ok-at.at c.requires c.decreases c.in_ok-at.was c.prefix_at.ensures c.in-Call2.is tt) c.expect-a.ensures)

pub expr-last-c-requires : goal.expr-last-c-requires
expr-last-c-requires t c =
    falls (past-expr _ (past-sign 15 (head-past c.args.tokens.now c.in_ok-at.at c.requires c.decreases c.in_ok-at.was c.prefix_at.ensures c.in-Call2.is tt) c.expect-a.ensures) c.expr-b.ensures)

pub expr-more-requires-in-Call2 : goal.expr-more-requires-in-Call2
expr-more-requires-in-Call2 t c =
    falls (past-last _ _ (past-expr _ (past-sign 15 (head-past c.args.tokens.now c.in_ok-at.at c.requires c.decreases c.in_ok-at.was c.prefix_at.ensures c.in-Call2.is tt) c.expect-a.ensures) c.expr-b.ensures) c.last-c.ensures)

pub expr-returns-in-Push : goal.expr-returns-in-Push
expr-returns-in-Push t c =
    push-is c.args.tokens.now c.args.min c.in_ok-at.at c.requires c.in_ok-at.was c.prefix_at.ensures c.in-Push.op c.in-Push.arg c.in-Push.val c.in-Push.is c.emit-a.ensures.answer c.emit-a.ensures.code c.more.ensures

pub expr-returns-in-Unary : goal.expr-returns-in-Unary
expr-returns-in-Unary t c =
    unary-is c.args.tokens.now c.args.min c.in_ok-at.at c.requires c.in_ok-at.was c.prefix_at.ensures c.in-Unary.op c.in-Unary.is c.expr-a.ensures c.emit-b.ensures.answer c.emit-b.ensures.code c.more-in-Unary.ensures

pub expr-returns-in-Open : goal.expr-returns-in-Open
expr-returns-in-Open t c =
    open_is c.args.tokens.now c.args.min c.in_ok-at.at c.requires c.in_ok-at.was c.prefix_at.ensures c.in-Open.is c.expr-a-in-Open.ensures c.expect-b.ensures c.more-in-Open.ensures

pub expr-returns-in-Call : goal.expr-returns-in-Call
expr-returns-in-Call t c =
    call-is c.args.tokens.now c.args.min c.in_ok-at.at c.requires c.in_ok-at.was c.prefix_at.ensures c.in-Call.op c.in-Call.is c.last-a.ensures c.more-in-Call.ensures

pub expr-returns-in-Call2 : goal.expr-returns-in-Call2
expr-returns-in-Call2 t c =
    call2-is c.args.tokens.now c.args.min c.in_ok-at.at c.requires c.in_ok-at.was c.prefix_at.ensures c.in-Call2.op c.in-Call2.is c.expect-a.ensures c.expr-b.ensures c.last-c.ensures c.more-in-Call2.ensures

pub expr-returns-in-Bad : goal.expr-returns-in-Bad
expr-returns-in-Bad t c =
    expr-bad c.args.tokens.now c.args.min c.in_ok-at.at c.in_ok-at.was c.prefix_at.ensures c.in-Bad.is

pub last-returns-in_err-next : goal.last-returns-in_err-next
last-returns-in_err-next t c =
    runs_to (sym c.from_residual.ensures) (last_none c.args.s c.args.op c.expect.ensures c.in_err-next.was)

pub last-expr-a-requires : goal.last-expr-a-requires
last-expr-a-requires t c =
    falls (past-passed c.args.s c.requires c.decreases (sym c.in_ok-next.was ∙ c.expect.ensures) refl)

pub last-emit-requires : goal.last-emit-requires
last-emit-requires t c =
    past-place (past-sign 16 (past-expr _ (past-passed c.args.s c.requires c.decreases (sym c.in_ok-next.was ∙ c.expect.ensures) refl) c.expr-a.ensures) c.expect-b.ensures)

pub last-returns : goal.last-returns
last-returns t c =
    last-is c.args.s c.args.op c.requires c.expect.ensures c.in_ok-next.was c.expr-a.ensures c.expect-b.ensures c.emit.ensures.answer c.emit.ensures.code

pub more-overflow_add-at : goal.more-overflow_add-at
more-overflow_add-at t c =
    let lt : c.in_ok-at.at < length c.args.tokens.now = tail-in c.args.tokens.now c.in_ok-at.at c.infix_at.ensures c.in-Binary.is tt in
    omega arith

pub more-expr-a-requires : goal.more-expr-a-requires
more-expr-a-requires t c =
    falls (tail-past c.args.tokens.now c.in_ok-at.at c.requires c.decreases c.in_ok-at.was c.infix_at.ensures c.in-Binary.is tt)

pub more-emit-b-requires : goal.more-emit-b-requires
more-emit-b-requires t c =
    past-place (past-expr _ (tail-past c.args.tokens.now c.in_ok-at.at c.requires c.decreases c.in_ok-at.was c.infix_at.ensures c.in-Binary.is tt) c.expr-a.ensures)

pub more-more-requires : goal.more-more-requires
more-more-requires t c =
    falls (past-emit _ (past-expr _ (tail-past c.args.tokens.now c.in_ok-at.at c.requires c.decreases c.in_ok-at.was c.infix_at.ensures c.in-Binary.is tt) c.expr-a.ensures) c.emit-b.ensures.answer c.emit-b.ensures.code)

pub more-overflow_add-at-then-min-eq-LOOSEST : goal.more-overflow_add-at-then-min-eq-LOOSEST
more-overflow_add-at-then-min-eq-LOOSEST t c =
    let lt : c.in_ok-at.at < length c.args.tokens.now = tail-in c.args.tokens.now c.in_ok-at.at c.infix_at.ensures c.in-Question.is tt in
    omega arith

pub more-expr-a-requires-then-min-eq-LOOSEST : goal.more-expr-a-requires-then-min-eq-LOOSEST
more-expr-a-requires-then-min-eq-LOOSEST t c =
    falls (tail-past c.args.tokens.now c.in_ok-at.at c.requires c.decreases c.in_ok-at.was c.infix_at.ensures c.in-Question.is tt)

pub more-expr-c-requires : goal.more-expr-c-requires
more-expr-c-requires t c =
    falls (past-sign 23 (past-expr _ (tail-past c.args.tokens.now c.in_ok-at.at c.requires c.decreases c.in_ok-at.was c.infix_at.ensures c.in-Question.is tt) c.expr-a-then-min-eq-LOOSEST.ensures) c.expect-b.ensures)

pub more-emit-d-requires : goal.more-emit-d-requires
more-emit-d-requires t c =
    past-place (past-expr _ (past-sign 23 (past-expr _ (tail-past c.args.tokens.now c.in_ok-at.at c.requires c.decreases c.in_ok-at.was c.infix_at.ensures c.in-Question.is tt) c.expr-a-then-min-eq-LOOSEST.ensures) c.expect-b.ensures) c.expr-c.ensures)

pub more-more-requires-then-min-eq-LOOSEST : goal.more-more-requires-then-min-eq-LOOSEST
more-more-requires-then-min-eq-LOOSEST t c =
    falls (past-emit _ (past-expr _ (past-sign 23 (past-expr _ (tail-past c.args.tokens.now c.in_ok-at.at c.requires c.decreases c.in_ok-at.was c.infix_at.ensures c.in-Question.is tt) c.expr-a-then-min-eq-LOOSEST.ensures) c.expect-b.ensures) c.expr-c.ensures) c.emit-d.ensures.answer c.emit-d.ensures.code)

pub more-returns-then-min-level : goal.more-returns-then-min-level
more-returns-then-min-level t c =
    binary-is c.args.tokens.now c.args.min c.in_ok-at.at c.requires c.in_ok-at.was c.infix_at.ensures c.in-Binary.op c.in-Binary.level c.in-Binary.is c.if-min-level.true c.expr-a.ensures c.emit-b.ensures.answer c.emit-b.ensures.code c.more.ensures

pub more-returns-else-min-level : goal.more-returns-else-min-level
more-returns-else-min-level t c =
    stop-binary c.args.tokens.now c.args.min c.in_ok-at.at c.requires c.in_ok-at.was c.infix_at.ensures c.in-Binary.op c.in-Binary.level c.in-Binary.is c.if-min-level.false

pub more-returns-then-min-eq-LOOSEST : goal.more-returns-then-min-eq-LOOSEST
more-returns-then-min-eq-LOOSEST t c =
    choice-is c.args.tokens.now c.args.min c.in_ok-at.at c.requires c.in_ok-at.was c.infix_at.ensures c.in-Question.is c.if-min-eq-LOOSEST.true c.expr-a-then-min-eq-LOOSEST.ensures c.expect-b.ensures c.expr-c.ensures c.emit-d.ensures.answer c.emit-d.ensures.code c.more-then-min-eq-LOOSEST.ensures

pub more-returns-else-min-eq-LOOSEST : goal.more-returns-else-min-eq-LOOSEST
more-returns-else-min-eq-LOOSEST t c =
    stop-question c.args.tokens.now c.args.min c.in_ok-at.at c.requires c.in_ok-at.was c.infix_at.ensures c.in-Question.is (pos_of_ne-zero c.if-min-eq-LOOSEST.false)

pub more-returns-in-Stop : goal.more-returns-in-Stop
more-returns-in-Stop t c =
    stop-here c.args.tokens.now c.args.min c.in_ok-at.at c.requires c.in_ok-at.was c.infix_at.ensures c.in-Stop.is
