use mathlib.Core.Path.{◌∙◌}
use borrow.Author.Rules.{rules}
use Rattle.panel.specs.Calls.{block_after}
use Rattle.panel.proofs.Entering.{cycles}
use Rattle.panel.proofs.Core.cycle.Goals as goal

pub returns : goal.returns
unfolding block_after
returns c =
    let e = c.cycle_call-r.ensures in record { panel = c.leaving.ensures ∙ cycles _ _ _ _ _ e.state; block = e.block }
