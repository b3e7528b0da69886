-- Control lines on the panel's notes.
use Rattle.std.specs.Prelude.{List, ℕ, Float}
use Rattle.score_line.specs.declared.Event.{Event}
use Rattle.score_line.specs.declared.Event.TheVariants.{Instr, Control, End, Tempo}
use Rattle.score_line.specs.declared.Line.{Line}
use Rattle.note_state.specs.declared.Note.{Note}
use Rattle.player_model.specs.Lists.{each, fold}
use Rattle.code_program.specs.InstrumentTable.{instrument_in}
use Rattle.code_program.specs.declared.Instrument.{Instrument}
use Rattle.note_lifecycle.specs.OneNote.{controlled_note}

unfoldable pub controlled_in : List Instrument → ℕ → ℕ → Float → Note → Note
controlled_in table label variable value n = controlled_note (instrument_in table n.instrument) n label variable value

abbrev pub controls_in : List Instrument → List Note → Event → List Note
controls_in table ns (Instr label name duration) = ns
controls_in table ns (Control label variable value) = each (controlled_in table label variable value) ns
controls_in table ns End = ns
controls_in table ns (Tempo t) = ns

unfoldable pub controlled_all : List Instrument → List Note → List Line → List Note
controlled_all table ns ls = fold (λ (ms : List Note) (l : Line). controls_in table ms l.event) ns ls
