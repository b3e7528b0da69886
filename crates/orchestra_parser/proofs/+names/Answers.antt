-- The proof of a reader that calls itself: it is called at fewer tokens left.
use Rattle.std.proofs.Common.{◌≡◌, ℕ, ◌+◌, ◌<◌, length, refl, sym, ◌∙◌, arith}
use Rattle.orchestra_expressions.proofs.Moves.{sign-in}
use Rattle.orchestra_expressions.proofs.Runs.{runs_to, past-ready}
use Rattle.orchestra_parser.proofs.Reading.{names-no, names_more, names-end, names-past}
use Rattle.orchestra_parser.proofs.+names.Goals as goal

pub returns-in_err-at : goal.returns-in_err-at
returns-in_err-at t c =
    runs_to (sym c.from_residual.ensures) (names-no c.args.kind c.name-a.ensures c.in_err-at.was)

pub overflow_add-at : goal.overflow_add-at
overflow_add-at t c =
    let h : c.in_ok-at.at < length c.args.tokens.now = sign-in c.args.tokens.now c.in_ok-at.at 19 (sym c.sign_at.ensures ∙ c.if-sign_at.true) in
    omega arith

pub names-requires : goal.names-requires
names-requires t c =
    let p = names-past c.args.tokens.now c.args.kind c.in_ok-at.at c.name-a.ensures c.in_ok-at.was c.sign_at.ensures c.requires c.decreases c.if-sign_at.true in
    (p.less, past-ready p)

pub returns-then-sign_at : goal.returns-then-sign_at
returns-then-sign_at t c =
    names_more c.args.tokens.now c.args.kind c.in_ok-at.at c.name-a.ensures c.in_ok-at.was c.sign_at.ensures c.if-sign_at.true c.names.ensures

pub returns-else-sign_at : goal.returns-else-sign_at
returns-else-sign_at t c =
    names-end c.args.tokens.now c.args.kind c.in_ok-at.at c.name-a.ensures c.in_ok-at.was c.sign_at.ensures c.requires c.if-sign_at.false
