use mathlib.Core.Path.{sym, ◌∙◌}
use borrow.Author.Rules.{rules}
use Rattle.entrance_readers.proofs.Gathering.{text-told, heard-text, counted-text, heard-taken, heard-refused}
use Rattle.entrance_readers.proofs.text.Goals as goal

pub text_lines-requires : goal.text_lines-requires
text_lines-requires c =
    let e = c.read_text-read.ensures in
    record { s_value = heard-taken _ (text-told _) _ (heard-text _ _ e) (sym c.is_taken.ensures ∙ c.if-is_taken.true); count_value = counted-text _ _ e }

pub returns : goal.returns
returns c =
    heard-refused _ (text-told _) _ (heard-text _ _ c.read_text-read.ensures)
    (sym c.is_taken.ensures ∙ c.if-is_taken.false) _ c.refused_score.ensures
