use mathlib.Core.Path.{sym, ◌∙◌}
use borrow.Author.Rules.{rules}
use Rattle.entrance_admission.proofs.Pushing.{brings-over, brings-lines, brings-fault}
use Rattle.entrance_admission.proofs.submit.Goals as goal

pub returns-then-ended : goal.returns-then-ended
returns-then-ended c =
    search brings-over

pub returns-then-is_taken : goal.returns-then-is_taken
returns-then-is_taken c =
    brings-lines _ _ _ c.args.h c.if-ended.false (sym c.is_taken.ensures ∙ c.if-is_taken.true) _ c.admit_lines.ensures

pub returns : goal.returns
returns c =
    brings-fault _ _ _ c.args.h c.if-ended.false (sym c.is_taken.ensures ∙ c.if-is_taken.false)
