-- The proof of a reader that calls itself: it is called at fewer tokens left.
use Rattle.std.proofs.Common.{◌≡◌, ℕ, ◌+◌, ◌<◌, length, refl, sym, ◌∙◌, arith}
use Rattle.orchestra_expressions.proofs.Runs.{past-ready, runs_to, past_first}
use Rattle.orchestra_grammar.proofs.Steps.{instrument-took}
use Rattle.orchestra_parser.proofs.Reading.{last-no, others-follow, last_one}
use Rattle.orchestra_parser.proofs.+instruments.Goals as goal

pub returns-in_err-at : goal.returns-in_err-at
returns-in_err-at t c =
    runs_to (sym c.from_residual.ensures) (last-no c.instrument-a.ensures c.in_err-at.was)

pub instruments-requires : goal.instruments-requires
instruments-requires t c =
    let p = past_first 4 instrument-took c.requires c.decreases c.instrument-a.ensures c.in_ok-at.was in
    (p.less, past-ready p)

pub returns-then-at-tokens : goal.returns-then-at-tokens
returns-then-at-tokens t c =
    others-follow c.args.tokens.now c.in_ok-at.at c.instrument-a.ensures c.in_ok-at.was c.if-at-tokens.true c.instruments.ensures

pub returns-else-at-tokens : goal.returns-else-at-tokens
returns-else-at-tokens t c =
    last_one c.args.tokens.now c.in_ok-at.at c.instrument-a.ensures c.in_ok-at.was c.requires c.if-at-tokens.false
