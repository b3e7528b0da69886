-- A program that represents an orchestra's tree plays the tree.
use Rattle.std.specs.Prelude.{◌≡◌, cond, ◌&&◌, List, [], ◌∷◌, ℕ, ◌<◌, length, eqb, Float}
use Rattle.score_line.specs.declared.Line.{Line}
use Rattle.score_line.specs.declared.Event.{Event}
use Rattle.orchestra_syntax.specs.Tree.{Instrument, imports_kind}
use Rattle.orchestra_syntax.specs.Names.{Named, names_of}
use Rattle.orchestra_semantics.specs.inside.Placed.{k_pass}
use Rattle.orchestra_semantics.specs.inside.Outputs.{outputs_in as of_passes, after_passes}
use Rattle.player_model.specs.Cycle.{Voices, Note}
use Rattle.player_model.specs.PlayerState.{Settings}
use Rattle.player_model.specs.Results.{OutputsAdd}
use Rattle.player_model.specs.Plain.{plain_at, answer_at, block_at}
use Rattle.code_program.specs.declared.Instrument as row
use Rattle.code_program.specs.InstrumentTable.{field_count_in}
use Rattle.voices_compiled.specs.Voices.{VoiceState, voices}
use Rattle.orchestra_semantics.specs.Meaning.{no_symbol, instrument_of}
use Rattle.voices_resolved.specs.Tree.{body_of, set_of, tree_voices, fields_of}
use Rattle.voices_resolved.specs.Represents.{Represents}

-- the plain player does the same with either voices, in every cycle, for every list of lines and all settings
pub record SamePlayer {S : Type 0} (v w : Voices S) : Type 0 where
  pub holds : (start : Float) (settings : ℕ → Settings) (ls : List Line) (k : ℕ) → plain_at v start settings ls k ≡ plain_at w start settings ls k
  pub answers : (start : Float) (settings : ℕ → Settings) (ls : List Line) (k : ℕ) → answer_at v start settings ls k ≡ answer_at w start settings ls k
  pub blocks : (start : Float) (settings : ℕ → Settings) (ls : List Line) (k : ℕ) → block_at v start settings ls k ≡ block_at w start settings ls k

-- Each program that represents a tree: its plain player is the tree's.
abbrev pub PlaysTree : Type 0
PlaysTree =
    (is : List Instrument) (table : List row.Instrument) (code : List ℕ) (vals : List Float) → Represents is table code vals
    → SamePlayer (voices table code vals) (tree_voices is)

-- Refusal 4 by the program's table is refusal 4 by the tree.
abbrev pub FieldsTree : Type 0
FieldsTree =
    (is : List Instrument) (table : List row.Instrument) (code : List ℕ) (vals : List Float) → Represents is table code vals
    → (event : Event) → field_count_in table event ≡ fields_of is event

-- the values with the one of the imports ksig x set to a, name by name
unfoldable pub imported : ℕ → Float → List Named → List Float → List Float
imported x a [] vs = vs
imported x a (n ∷ ns) [] = []
imported x a (n ∷ ns) (v ∷ vs) = cond (eqb n.kind imports_kind && eqb n.name x) a v ∷ imported x a ns vs

-- A control line, whose symbol has 16 bits, sets the named imports ksig of a note and nothing else.
abbrev pub ControlNames : Type 0
ControlNames =
    (is : List Instrument) (x : ℕ) (a : Float) (s : VoiceState) → x < no_symbol → length s.values ≡ 16
    → (set_of is x a s).values ≡ imported x a (names_of (instrument_of is s.instrument)) s.values

module _ (is : List Instrument) where
  -- what a note outputs in each of n samples, and what it holds after them: its k statements have run first
  abbrev pub outputs_in : ℕ → VoiceState → List (List Float)
  outputs_in n s = of_passes n (body_of is s.instrument) (k_pass (body_of is s.instrument) s.values)

  abbrev pub held_after : ℕ → VoiceState → VoiceState
  held_after n s =
      record {
        instrument = s.instrument;
        values = after_passes n (body_of is s.instrument) (k_pass (body_of is s.instrument) s.values);
      }

-- Step 5 with the tree's voices: each sample is +0 and then the outputs of all notes added one after the other, in note order, then
-- statement order.
abbrev pub OutputsSum : Type 0
OutputsSum = (is : List Instrument) (before : List (Note VoiceState)) → OutputsAdd (tree_voices is) (held_after is) (outputs_in is) before
