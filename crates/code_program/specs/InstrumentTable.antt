-- What is looked up in the compiled orchestra: its instruments by name, and their fields.
use Rattle.std.specs.Prelude.{cond, List, [], ◌∷◌, ℕ, take, replicate, eqb, Option, Some, None}
use Rattle.std.specs.Option.{unwrap_or}
use Rattle.score_line.specs.declared.Event.{Event}
use Rattle.score_line.specs.declared.Event.TheVariants.{Instr, Control, End, Tempo}
use Rattle.code_program.specs.declared.Instrument.{Instrument}
use Rattle.code_program.specs.declared.Instruments.{Instruments}

-- the instruments that are there
abbrev pub instruments_of : Instruments → List Instrument
instruments_of x = take x.count x.table

-- no instrument: no fields, no code, no imports
unfoldable pub blank : Instrument
blank =
    record {
      name = 0;
      fields = 0;
      istart = 0;
      iend = 0;
      kstart = 0;
      kend = 0;
      astart = 0;
      aend = 0;
      imports = replicate 16 65536;
    }

-- the first instrument with a name
unfoldable pub lookup_in : ℕ → List Instrument → Option Instrument
lookup_in name [] = None
lookup_in name (x ∷ xs) = cond (eqb x.name name) (Some x) (lookup_in name xs)

-- the instrument with a name, or the blank one
abbrev pub instrument_in : List Instrument → ℕ → Instrument
instrument_in table name = unwrap_or (lookup_in name table) blank

-- how many fields a found instrument has
abbrev pub field_count_found : Option Instrument → Option ℕ
field_count_found (Some x) = Some x.fields
field_count_found None = None

-- how many fields a line's instrument has
abbrev pub field_count_in : List Instrument → Event → Option ℕ
field_count_in table (Instr label name duration) = field_count_found (lookup_in name table)
field_count_in table (Control label x value) = None
field_count_in table End = None
field_count_in table (Tempo t) = None
