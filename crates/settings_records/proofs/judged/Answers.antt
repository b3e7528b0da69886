use mathlib.Core.Bool.{not}
use mathlib.Core.Path.{ap, refl}
use Rattle.base_answer.specs.declared.Answer.TheVariants.{OutOfRange}
use Rattle.settings_records.specs.Form.{refused_as, found, setting}
use Rattle.settings_records.proofs.Ways.{bad-ceiling, bad-notes, bad-tempo, all-good}
use Rattle.settings_records.proofs.Telling.{told_as}
use Rattle.settings_records.proofs.judged.Goals as goal

pub returns-then-not-within : goal.returns-then-not-within
returns-then-not-within c =
    let a = c.args in
    told_as (refused_as OutOfRange) _ (bad-ceiling a.ceiling a.notes a.tempo a.size _ c.within.ensures (ap not c.if-not-within.true) refl)

pub returns-then-not-within-2 : goal.returns-then-not-within-2
returns-then-not-within-2 c =
    let a = c.args in
    told_as (refused_as OutOfRange) _ (bad-notes a.ceiling a.notes a.tempo a.size _ c.within.ensures (ap not c.if-not-within.false) _ c.within-2.ensures (ap not c.if-not-within-2.true) refl)

pub returns-then-not-within-3 : goal.returns-then-not-within-3
returns-then-not-within-3 c =
    let a = c.args in
    told_as (refused_as OutOfRange) _ (bad-tempo a.ceiling a.notes a.tempo a.size _ c.within.ensures (ap not c.if-not-within.false) _ c.within-2.ensures (ap not c.if-not-within-2.false)
    _ c.within-3.ensures (ap not c.if-not-within-3.true) refl)

pub returns : goal.returns
returns c =
    let a = c.args in
    told_as (found (setting a.ceiling a.notes a.tempo) a.size) _ (all-good a.ceiling a.notes a.tempo a.size _ c.within.ensures (ap not c.if-not-within.false)
    _ c.within-2.ensures (ap not c.if-not-within-2.false) _ c.within-3.ensures (ap not c.if-not-within-3.false))
