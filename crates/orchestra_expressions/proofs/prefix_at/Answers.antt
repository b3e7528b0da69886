use Rattle.std.proofs.Common.{refl}
use Rattle.orchestra_expressions.proofs.Toks.{here, past}
use Rattle.orchestra_expressions.specs.Roles.{prefix_l}
use Rattle.orchestra_expressions.proofs.prefix_at.Goals as goal

pub returns-then-at-tokens : goal.returns-then-at-tokens
returns-then-at-tokens c =
    here prefix_l c.args.tokens.now c.args.at _ c.if-at-tokens.true c.prefix_of.ensures

pub returns-else-at-tokens : goal.returns-else-at-tokens
returns-else-at-tokens c =
    past prefix_l c.args.tokens.now c.args.at c.if-at-tokens.false refl
