-- The voices of an orchestra's tree: what a line's note does in steps 3, 4 and 5 of document 01's cycle.
use Rattle.std.specs.Prelude.{cond, List, ◌++◌, map, ℕ, length, take, replicate, eqb, Float, Option, Some, None}
use Rattle.orchestra_syntax.specs.Tree.{Statements, Instrument, imports_kind}
use Rattle.orchestra_syntax.specs.Names.{Named, has, title_of, names_of}
use Rattle.orchestra_syntax.specs.inside.Placed.{placed}
use Rattle.orchestra_semantics.specs.inside.Placed.{places, birth, cycle}
use Rattle.score_line.specs.declared.Event.{Event}
use Rattle.score_line.specs.declared.Event.TheVariants.{Instr, Control, End, Tempo}
use Rattle.player_model.specs.Cycle.{Voices, Ran}
use Rattle.voices_compiled.specs.Voices.{VoiceState, named}
use Rattle.orchestra_semantics.specs.Meaning.{instrument_of, no_symbol}

-- the symbol by which a control line sets a name: an imports ksig's own
abbrev pub import_of : Named → ℕ
import_of n = cond (eqb n.kind imports_kind) n.name no_symbol

-- the same for each place of a note
unfoldable pub imports_of : Instrument → List ℕ
imports_of i = take places (map import_of (names_of i) ++ replicate places no_symbol)

-- an instrument's statements, its names by their places
abbrev pub body_of : List Instrument → ℕ → Statements
body_of is name = (placed (instrument_of is name)).body

module _ (is : List Instrument) where
  -- step 3: a new note holds the values, as many as there are fields, and then zeros, and its i statements have run once
  abbrev pub born_of : ℕ → List Float → VoiceState
  born_of name xs = record { instrument = name; values = birth (body_of is name) (take (length (instrument_of is name).fields) xs) }

  -- step 4: the imports ksig named x is set to a
  abbrev pub set_of : ℕ → Float → VoiceState → VoiceState
  set_of x a s = record { instrument = s.instrument; values = named x a (imports_of (instrument_of is s.instrument)) s.values }

  -- step 5: the k statements run once, then the a statements for each sample, and each output adds its value
  abbrev pub ran_of : VoiceState → List Float → Ran VoiceState
  ran_of s mix =
      let p = cycle (body_of is s.instrument) s.values mix in
      record { state = record { instrument = s.instrument; values = p.values }; mix = p.mix }

  unfoldable pub tree_voices : Voices VoiceState
  tree_voices =
      record {
        birth = λ (name : ℕ) (xs : List Float). born_of name xs;
        control = λ (x : ℕ) (a : Float) (s : VoiceState). set_of x a s;
        run = λ (s : VoiceState) (mix : List Float). ran_of s mix;
      }

-- ---- refusal 4

-- how many fields a line's instrument has, or that there is no such instrument
abbrev pub fields_of : List Instrument → Event → Option ℕ
fields_of is (Instr label name duration) = cond (has name (map title_of is)) (Some (length (instrument_of is name).fields)) None
fields_of is (Control label x value) = None
fields_of is End = None
fields_of is (Tempo t) = None
