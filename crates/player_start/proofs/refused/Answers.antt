use mathlib.Core.Path.{ap, ◌∙◌}
use mathlib.Core.Bool.{true}
use borrow.Author.Rules.{rules}
use Rattle.settings_records.specs.declared.InUse.{InUse}
use Rattle.player_start.specs.Starting.{start_of}
use Rattle.player_start.proofs.refused.Goals as goal

pub returns : goal.returns
returns c =
    let a = c.args in
    c.begin.ensures ∙ ap (λ (k : InUse). start_of a.program k 0 true a.answer) c.none_in_use.ensures
