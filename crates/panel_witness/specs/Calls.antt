-- The same piece by the panel's own calls: a stick with its line, then two cycles.
use Rattle.std.specs.Prelude.{◌≡◌, List, [], ◌∷◌, ℕ, ℤ, pos, replicate}
use Rattle.player_model.specs.Lists.{All}
use Rattle.player_model.specs.Cycle.{samples}
use Rattle.player_model.specs.Calls.{stick, Call, submit, cycle, one, Transition, trace, all_taken}
use Rattle.player_model.specs.Condition3.{InTime}
use Rattle.voices_source.specs.Voices.{written_voices}
use Rattle.panel.specs.declared.Panel.{Panel}
use Rattle.player_model.specs.Set.{starting_tempo}
use Rattle.panel_claims.specs.Fresh.{Setup}
use Rattle.panel_claims.specs.Claims.{after_of, panel, first_in_use, fresh, settings}
use Rattle.panel_witness.specs.Growing.{setup, bytes, tree, line}

-- the score with that one line
abbrev pub score : List ℕ
score = 0 ∷ 0 ∷ 24 ∷ 0 ∷ 0 ∷ 0 ∷ 0 ∷ 0 ∷ 0 ∷ 55 ∷ 240 ∷ 0 ∷ 0 ∷ 0 ∷ 0 ∷ []

-- a block as it is lent
abbrev pub lent : List ℤ
lent = replicate samples (pos 0)

abbrev pub calls : List Call
calls = submit stick score ∷ cycle lent ∷ cycle lent ∷ []

-- the panel at its fresh start, after the stick, and after the first cycle
abbrev pub u : Setup
u = setup bytes

abbrev pub started : Panel
started = fresh u

abbrev pub loaded : Panel
loaded = (after_of started (submit stick score)).player

abbrev pub cycled : Panel
cycled = (after_of loaded (cycle lent)).player

abbrev pub transitions : List (Transition Panel)
transitions = trace panel started calls

-- The premise of condition 3 can be met, and what follows is neither silence nor one block repeated.
pub record Heard : Type 0 where
  pub taken-whole : (after_of started (submit stick score)).answers ≡ one 0 0
  pub lines : all_taken transitions ≡ line ∷ []
  pub in-time : All (InTime panel (written_voices tree) (starting_tempo (first_in_use u)) (settings u transitions) (line ∷ [])) transitions
  pub first : ((after_of loaded (cycle lent)).answers ≡ one 0 0) × ((after_of loaded (cycle lent)).buffers.block ≡ replicate samples (pos 8192))
  pub second : ((after_of cycled (cycle lent)).answers ≡ one 0 0) × ((after_of cycled (cycle lent)).buffers.block ≡ replicate samples (pos 16384))
