-- What a panel starts with, for all bytes, areas, first records and choices.
use Rattle.std.specs.Prelude.{Bool, true, false, cond, List, [], ℕ, take}
use Rattle.std.specs.Option.{is_some}
use Rattle.base_answer.specs.Numbers.{is_taken}
use Rattle.base_answer.specs.declared.Answer.{Answer}
use Rattle.base_answer.specs.declared.Answer.TheVariants.{NoInstrument}
use Rattle.settings_records.specs.Changes.{none_in_use, change_of, area_changed}
use Rattle.settings_records.specs.declared.InUse.{InUse}
use Rattle.player_model.specs.Set.{starting_tempo}
use Rattle.code_program.specs.InstrumentTable.{lookup_in}
use Rattle.code_program.specs.declared.Program.{Program}
use Rattle.code_loader.specs.Loading.{load_of as loaded_from}
use Rattle.player_calls.specs.OnState.{start_state}
use Rattle.player_start.specs.declared.Start.{Start}

-- the chosen instrument is there
unfoldable pub has_chosen : Program → ℕ → Bool
has_chosen program chosen = is_some (lookup_in chosen (take program.count program.table))

-- the state of every start, at the tempo of its settings, beside what this one fixes
unfoldable pub start_of : Program → InUse → ℕ → Bool → Answer → Start
start_of program k chosen ended a = record { state = start_state (starting_tempo k) ended; settings = k; chosen = chosen; program = program; answer = a }

-- a refused start: it has ended
abbrev pub refused_start : Program → Answer → Start
refused_start program a = start_of program none_in_use 0 true a

-- the first record, as a change with none in use, before the orchestra is looked at; then the orchestra's answer; then 4 where the chosen
-- instrument is not there
unfoldable pub starting_of : List ℕ → List ℕ → List ℕ → ℕ → Start
starting_of orchestra area first chosen =
    let c = change_of none_in_use area first in
    let r = loaded_from orchestra in
    cond (is_taken c.answer)
    (cond (is_taken r.answer)
    (cond (has_chosen r.left chosen) (start_of r.left c.left chosen false r.answer) (refused_start r.left NoInstrument))
    (refused_start r.left r.answer))
    (refused_start (loaded_from []).left c.answer)

-- the lent area afterwards
unfoldable pub area_started : List ℕ → List ℕ → List ℕ → ℕ → List ℕ
unfolding starting_of
area_started orchestra area first chosen = cond (is_taken (starting_of orchestra area first chosen).answer) (area_changed 0 area first) area
