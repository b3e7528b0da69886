use mathlib.Core.Path.{sym, ◌∙◌}
use Rattle.note_lifecycle.proofs.OneNote.{same-label, control-yes, control-other}
use Rattle.note_lifecycle.proofs.controlled_note.Goals as goal

pub returns-then-eq : goal.returns-then-eq
returns-then-eq c =
    control-yes _ _ _ _ _ (sym (same-label c.args.label c.args.n.label) ∙ sym c.eq.ensures ∙ c.if-eq.true)
    _ c.wide.ensures _ c.set_import-held.ensures _ c.with_values.ensures

pub returns : goal.returns
returns c =
    control-other _ _ _ _ _ (sym (same-label c.args.label c.args.n.label) ∙ sym c.eq.ensures ∙ c.if-eq.false)
