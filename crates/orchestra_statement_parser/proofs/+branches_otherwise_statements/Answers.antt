-- The proof of the cycle of calls {branches, otherwise, statements}: each call is made at fewer tokens left.
use Rattle.std.proofs.Common.{◌≡◌, ℕ, ◌+◌, ◌<◌, length, refl, sym, ◌∙◌, arith}
use Rattle.orchestra_syntax.specs.inside.Program.{ins, else_op, end_op}
use Rattle.orchestra_expressions.specs.Reader.{seq}
use Rattle.orchestra_expressions.specs.Areas.{gone}
use Rattle.orchestra_expressions.proofs.Moves.{sign-in}
use Rattle.orchestra_expressions.proofs.Runs.{runs_seq, runs-sign, runs-emit, ready-place, ready-less, past-ready, past-sign, past-start, runs_to, past-took, past_first}
use Rattle.orchestra_grammar.specs.Reader as R
use Rattle.orchestra_grammar.specs.declared.StatementStart.TheVariants.{Name, Output, If}
use Rattle.orchestra_grammar.proofs.Results.{sign-emit}
use Rattle.orchestra_grammar.proofs.Steps.{set_to-took, bracketed-took, branches-took}
use Rattle.orchestra_statement_parser.proofs.Reading.{start-in, start-past, statements-took, statements-as, statements-stop, else-on, else-off}
use Rattle.orchestra_statement_parser.proofs.+branches_otherwise_statements.Goals as goal

pub branches-returns-in_err-next : goal.branches-returns-in_err-next
branches-returns-in_err-next t c =
    runs_to (sym c.from_residual.ensures)
    (runs_seq (λ p. seq (R.statements p) (λ q. seq (R.close else_op q) (R.otherwise R.statements))) (runs_to c.in_err-next.was c.bracketed.ensures) (gone refl refl refl))

pub branches-statements-b-requires : goal.branches-statements-b-requires
branches-statements-b-requires t c =
    let p₁ = past_first 1 (bracketed-took 17 7) c.requires c.decreases (runs_to c.in_ok-next.was c.bracketed.ensures) refl in
    (p₁.less, past-ready p₁)

pub branches-block_end-c-requires : goal.branches-block_end-c-requires
branches-block_end-c-requires t c =
    let p₁ = past_first 1 (bracketed-took 17 7) c.requires c.decreases (runs_to c.in_ok-next.was c.bracketed.ensures) refl in
    past-ready (past-took 0 statements-took p₁ c.statements-b.ensures)

pub branches-otherwise-requires : goal.branches-otherwise-requires
branches-otherwise-requires t c =
    let p₁ = past_first 1 (bracketed-took 17 7) c.requires c.decreases (runs_to c.in_ok-next.was c.bracketed.ensures) refl in
    let p₃ = past-took 0 (sign-emit 18 (ins else_op)) (past-took 0 statements-took p₁ c.statements-b.ensures) c.block_end-c.ensures in
    (p₃.less, ready-less (omega arith) p₃.ready)

pub branches-returns : goal.branches-returns
branches-returns t c =
    runs_seq (λ p. seq (R.statements p) (λ q. seq (R.close else_op q) (R.otherwise R.statements))) (runs_to c.in_ok-next.was c.bracketed.ensures)
    (runs_seq (λ q. seq (R.close else_op q) (R.otherwise R.statements)) c.statements-b.ensures (runs_seq (R.otherwise R.statements) c.block_end-c.ensures c.otherwise.ensures))

pub otherwise-overflow_add-at : goal.otherwise-overflow_add-at
otherwise-overflow_add-at t c =
    let h : c.in_ok-at.at < length c.args.tokens.now = sign-in c.args.tokens.now c.in_ok-at.at 8 (sym c.sign_at.ensures ∙ c.if-sign_at.true) in
    omega arith

pub otherwise-statements-b-requires : goal.otherwise-statements-b-requires
otherwise-statements-b-requires t c =
    let h : c.in_ok-at.at < length c.args.tokens.now = sign-in c.args.tokens.now c.in_ok-at.at 8 (sym c.sign_at.ensures ∙ c.if-sign_at.true) in
    let p₁ = past-sign 17 (past-start c.requires c.in_ok-at.was c.decreases h) c.expect-a.ensures in
    (p₁.less, past-ready p₁)

pub otherwise-block_end-requires : goal.otherwise-block_end-requires
otherwise-block_end-requires t c =
    let h : c.in_ok-at.at < length c.args.tokens.now = sign-in c.args.tokens.now c.in_ok-at.at 8 (sym c.sign_at.ensures ∙ c.if-sign_at.true) in
    let p₁ = past-sign 17 (past-start c.requires c.in_ok-at.was c.decreases h) c.expect-a.ensures in
    past-ready (past-took 0 statements-took p₁ c.statements-b.ensures)

pub otherwise-returns-then-sign_at : goal.otherwise-returns-then-sign_at
otherwise-returns-then-sign_at t c =
    else-on c.args.tokens.now c.in_ok-at.at c.in_ok-at.was c.sign_at.ensures c.if-sign_at.true
    (runs_seq (λ p. seq (R.statements p) (R.close end_op)) (runs-sign c.args.tokens.now 17 _ c.expect-a.ensures) (runs_seq (R.close end_op) c.statements-b.ensures c.block_end.ensures))

pub otherwise-returns-else-sign_at : goal.otherwise-returns-else-sign_at
otherwise-returns-else-sign_at t c =
    else-off c.args.tokens.now c.in_ok-at.at c.in_ok-at.was c.sign_at.ensures c.if-sign_at.false
    (runs-emit (ins end_op) c.requires c.emit.ensures.answer c.emit.ensures.code)

pub statements-overflow_add-at : goal.statements-overflow_add-at
statements-overflow_add-at t c =
    let h : c.in_ok-at.at < length c.args.tokens.now = start-in c.args.tokens.now c.in_ok-at.at c.statement_start_at.ensures c.in-Name.is tt in
    omega arith

pub statements-assignment-a-requires : goal.statements-assignment-a-requires
statements-assignment-a-requires t c =
    let p₀ = start-past c.args.tokens.now c.in_ok-at.at c.requires c.decreases c.in_ok-at.was c.statement_start_at.ensures c.in-Name.is tt in
    past-ready p₀

pub statements-statements-requires : goal.statements-statements-requires
statements-statements-requires t c =
    let p₀ = start-past c.args.tokens.now c.in_ok-at.at c.requires c.decreases c.in_ok-at.was c.statement_start_at.ensures c.in-Name.is tt in
    let p₁ = past-took 1 (set_to-took c.in-Name.n) p₀ c.assignment-a.ensures in
    (p₁.less, past-ready p₁)

pub statements-overflow_add-at-in-Output : goal.statements-overflow_add-at-in-Output
statements-overflow_add-at-in-Output t c =
    let h : c.in_ok-at.at < length c.args.tokens.now = start-in c.args.tokens.now c.in_ok-at.at c.statement_start_at.ensures c.in-Output.is tt in
    omega arith

pub statements-bracketed-a-requires : goal.statements-bracketed-a-requires
statements-bracketed-a-requires t c =
    let p₀ = start-past c.args.tokens.now c.in_ok-at.at c.requires c.decreases c.in_ok-at.was c.statement_start_at.ensures c.in-Output.is tt in
    past-ready p₀

pub statements-statements-requires-in-Output : goal.statements-statements-requires-in-Output
statements-statements-requires-in-Output t c =
    let p₀ = start-past c.args.tokens.now c.in_ok-at.at c.requires c.decreases c.in_ok-at.was c.statement_start_at.ensures c.in-Output.is tt in
    let p₁ = past-took 2 (bracketed-took 20 6) p₀ c.bracketed-a.ensures in
    (p₁.less, past-ready p₁)

pub statements-overflow_add-at-in-If : goal.statements-overflow_add-at-in-If
statements-overflow_add-at-in-If t c =
    let h : c.in_ok-at.at < length c.args.tokens.now = start-in c.args.tokens.now c.in_ok-at.at c.statement_start_at.ensures c.in-If.is tt in
    omega arith

pub statements-branches-a-requires : goal.statements-branches-a-requires
statements-branches-a-requires t c =
    let p₀ = start-past c.args.tokens.now c.in_ok-at.at c.requires c.decreases c.in_ok-at.was c.statement_start_at.ensures c.in-If.is tt in
    (p₀.less, past-ready p₀)

pub statements-statements-requires-in-If : goal.statements-statements-requires-in-If
statements-statements-requires-in-If t c =
    let p₀ = start-past c.args.tokens.now c.in_ok-at.at c.requires c.decreases c.in_ok-at.was c.statement_start_at.ensures c.in-If.is tt in
    let p₁ = past-took 1 (branches-took R.statements statements-took) p₀ c.branches-a.ensures in
    (p₁.less, past-ready p₁)

pub statements-returns-in-Name : goal.statements-returns-in-Name
statements-returns-in-Name t c =
    statements-as c.args.tokens.now c.in_ok-at.at (Name c.in-Name.n) (λ z. seq (R.set_to c.in-Name.n z) R.statements) (λ z. refl) c.in_ok-at.was c.statement_start_at.ensures c.in-Name.is
    (runs_seq R.statements c.assignment-a.ensures c.statements.ensures)

pub statements-returns-in-Output : goal.statements-returns-in-Output
statements-returns-in-Output t c =
    statements-as c.args.tokens.now c.in_ok-at.at Output (λ z. seq (R.bracketed 20 6 z) R.statements) (λ z. refl) c.in_ok-at.was c.statement_start_at.ensures c.in-Output.is
    (runs_seq R.statements c.bracketed-a.ensures c.statements-in-Output.ensures)

pub statements-returns-in-If : goal.statements-returns-in-If
statements-returns-in-If t c =
    statements-as c.args.tokens.now c.in_ok-at.at If (λ z. seq (R.branches R.statements z) R.statements) (λ z. refl) c.in_ok-at.was c.statement_start_at.ensures c.in-If.is
    (runs_seq R.statements c.branches-a.ensures c.statements-in-If.ensures)

pub statements-returns-in-Stop : goal.statements-returns-in-Stop
statements-returns-in-Stop t c =
    statements-stop c.args.tokens.now c.in_ok-at.at c.requires c.in_ok-at.was c.statement_start_at.ensures c.in-Stop.is
