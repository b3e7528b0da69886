-- A note: new, with other values, and marked for removal.
use Rattle.std.specs.Prelude.{Bool, true, List, ℕ, Float, Option}
use Rattle.note_state.specs.declared.Note.{Note}

abbrev pub new_note : List Float → Option ℕ → ℕ → Option ℕ → Bool → Option (ℕ × ℕ) → Bool → Note
new_note values label instrument end priority key released =
    record { values = values; label = label; instrument = instrument; end = end; priority = priority; key = key; released = released }

abbrev pub with_values : List Float → Note → Note
with_values vs n = new_note vs n.label n.instrument n.end n.priority n.key n.released

abbrev pub release : Note → Note
release n = new_note n.values n.label n.instrument n.end n.priority n.key true
