use Rattle.std.proofs.Common.{refl}
use Rattle.orchestra_expressions.proofs.Toks.{here, past}
use Rattle.orchestra_grammar.specs.Starts.{statement_start_l}
use Rattle.orchestra_grammar.proofs.statement_start_at.Goals as goal

pub returns-then-at-tokens : goal.returns-then-at-tokens
returns-then-at-tokens c =
    here statement_start_l c.args.tokens.now c.args.at _ c.if-at-tokens.true c.statement_start_of.ensures

pub returns-else-at-tokens : goal.returns-else-at-tokens
returns-else-at-tokens c =
    past statement_start_l c.args.tokens.now c.args.at c.if-at-tokens.false refl
