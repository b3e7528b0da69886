use borrow.Author.Rules.{rules}
use mathlib.Core.Path.{refl}
use Rattle.orchestra_expressions.specs.Areas.{left, gone}
use Rattle.orchestra_parser.proofs.Reading.{fields-none, fields-some}
use Rattle.orchestra_parser.proofs.fields.Goals as goal

pub returns-in_err-at : goal.returns-in_err-at
returns-in_err-at c =
    gone c.in_err-at.was c.from_residual.ensures refl

pub names-requires : goal.names-requires
names-requires c =
    c.requires

pub returns-then-sign_at : goal.returns-then-sign_at
returns-then-sign_at c =
    fields-none c.args.tokens.now c.in_ok-at.at c.in_ok-at.was c.sign_at.ensures c.requires c.if-sign_at.true

pub returns-else-sign_at : goal.returns-else-sign_at
returns-else-sign_at c =
    fields-some c.args.tokens.now c.in_ok-at.at c.in_ok-at.was c.sign_at.ensures c.if-sign_at.false c.names.ensures
