use mathlib.Core.Path.{ap, ◌∙◌}
use lib.Ieee.{Float}
use borrow.Author.Rules.{rules}
use Rattle.player_model.specs.Set.{starting_tempo}
use Rattle.player_calls.specs.OnState.{start_state}
use Rattle.player_start.specs.Starting.{start_of}
use Rattle.player_start.proofs.begin.Goals as goal

pub returns : goal.returns
unfolding start_of starting_tempo
returns c =
    let a = c.args in
    let s = c.initial_state.ensures ∙ ap (λ (t : Float). start_state t a.ended) c.beats-tempo.ensures in
    λ i. record { state = s i; settings = a.settings; chosen = a.chosen; program = a.program; answer = a.answer }
