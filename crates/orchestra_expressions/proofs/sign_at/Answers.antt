use Rattle.std.proofs.Common.{refl}
use Rattle.orchestra_expressions.proofs.Toks.{here, past}
use Rattle.orchestra_expressions.specs.Roles.{sign_l}
use Rattle.orchestra_expressions.proofs.sign_at.Goals as goal

pub returns-then-at-tokens : goal.returns-then-at-tokens
returns-then-at-tokens c =
    here (λ l. sign_l l c.args.s) c.args.tokens.now c.args.at _ c.if-at-tokens.true c.is_sign.ensures

pub returns-else-at-tokens : goal.returns-else-at-tokens
returns-else-at-tokens c =
    past (λ l. sign_l l c.args.s) c.args.tokens.now c.args.at c.if-at-tokens.false refl
