use Rattle.std.proofs.Common.{refl}
use Rattle.orchestra_expressions.proofs.Toks.{here, past}
use Rattle.orchestra_expressions.specs.Roles.{infix_l}
use Rattle.orchestra_expressions.proofs.infix_at.Goals as goal

pub returns-then-at-tokens : goal.returns-then-at-tokens
returns-then-at-tokens c =
    here infix_l c.args.tokens.now c.args.at _ c.if-at-tokens.true c.infix_of.ensures

pub returns-else-at-tokens : goal.returns-else-at-tokens
returns-else-at-tokens c =
    past infix_l c.args.tokens.now c.args.at c.if-at-tokens.false refl
