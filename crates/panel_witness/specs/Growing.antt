-- A concrete piece, so that the conditions are seen not to be empty: a tone that is a quarter louder in each cycle.
use Rattle.std.specs.Prelude.{◌≡◌, false, List, [], ◌∷◌, ℕ, pos, replicate, Float}
use Rattle.std.specs.Float.{binary32}
use Rattle.std.specs.Float.Ieee.{of_bits}
use Rattle.orchestra_syntax.specs.Tree.{number, name, binary, done, assign, output, Instrument, ksig_kind}
use Rattle.orchestra_signs.specs.Operators.{Binary}
use Rattle.orchestra_reader.specs.Verdict.{Accepted}
use Rattle.score_line.specs.declared.When.TheVariants.{Timed}
use Rattle.score_line.specs.declared.Label.TheVariants.{Unlabelled}
use Rattle.score_line.specs.declared.Event.TheVariants.{Instr}
use Rattle.score_line.specs.declared.Line.{Line}
use Rattle.settings_records.specs.Form.{SettingsRecord, version_one, sets, encoded}
use Rattle.settings_records.specs.Changes.{area_bytes, in_use}
use Rattle.settings_records.specs.declared.InUse.{InUse}
use Rattle.player_model.specs.Cycle.{Voices, samples}
use Rattle.player_model.specs.PlayerState.{Settings}
use Rattle.player_model.specs.Set.{in_force, starting_tempo}
use Rattle.player_model.specs.Plain.{answer_at, block_at}
use Rattle.panel_claims.specs.Fresh.{Setup}

-- instr s1 ( ) { ksig s2 ; s2 = s2 + 0.25 ; output ( s2 ) ; }
abbrev pub bytes : List ℕ
bytes =
    1 ∷ 0xf0 ∷ 0 ∷ 1 ∷ 15 ∷ 16 ∷ 17
    ∷ 3 ∷ 0xf0 ∷ 0 ∷ 2 ∷ 20
    ∷ 0xf0 ∷ 0 ∷ 2 ∷ 21 ∷ 0xf0 ∷ 0 ∷ 2 ∷ 32 ∷ 0xf1 ∷ 0x3e ∷ 0x80 ∷ 0 ∷ 0 ∷ 20
    ∷ 6 ∷ 15 ∷ 0xf0 ∷ 0 ∷ 2 ∷ 16 ∷ 20
    ∷ 18 ∷ 0xff ∷ []

-- its tree
abbrev pub tree : List Instrument
tree =
    record {
      name = 1;
      fields = [];
      declarations = record { kind = ksig_kind; names = 2 ∷ [] } ∷ [];
      body = assign 2 (binary Binary.plus (name 2) (number (of_bits binary32 0x3e800000))) (output (name 2) done);
    } ∷ []

-- one line: a note of s1 from beat 0, without end
abbrev pub line : Line
line =
    record {
      when = Timed false (of_bits binary32 0);
      priority = false;
      event = Instr Unlabelled 1 (of_bits binary32 0xbf800000);
      count = 0;
      values = replicate 8 (of_bits binary32 0);
    }

-- the highest ceiling, and a low one
abbrev pub ceiling : ℕ
ceiling = 32767

abbrev pub low : ℕ
low = 10000

-- the instrument that is chosen for the keyboard
abbrev pub chosen : ℕ
chosen = 1

-- the settings: one record of version 1, with this ceiling and 16 notes
abbrev pub first : ℕ → SettingsRecord
first ceiling = version_one ceiling 16

-- an area of 4,096 zeros
unfoldable pub blank : List ℕ
blank = replicate area_bytes 0

-- what a fresh start of an orchestra is given
abbrev pub setup : List ℕ → Setup
setup orchestra = record { orchestra = orchestra; area = blank; first = encoded (first ceiling); chosen = chosen }

-- what is then set, the tempo at the start, and the settings of every cycle as long as no call changes them
abbrev pub set_at_start : ℕ → InUse
set_at_start ceiling = in_use 1 (sets (first ceiling))

abbrev pub start : Float
start = starting_tempo (set_at_start ceiling)

abbrev pub fixed : ℕ → ℕ → Settings
fixed ceiling k = in_force chosen (set_at_start ceiling)

-- The orchestra is accepted with that tree. The plain player of the line, with these notes, answers 0 with a block of 8,192 in cycle 0 and of
-- 16,384 in cycle 1: not silence, not the first block again.
pub record Sounds {S : Type 0} (v : Voices S) : Type 0 where
  pub accepted : Accepted bytes tree
  pub first : (answer_at v start (fixed ceiling) (line ∷ []) 0 ≡ 0)
      × (block_at v start (fixed ceiling) (line ∷ []) 0 ≡ replicate samples (pos 8192))
  pub second : (answer_at v start (fixed ceiling) (line ∷ []) 1 ≡ 0)
      × (block_at v start (fixed ceiling) (line ∷ []) 1 ≡ replicate samples (pos 16384))
  -- at a ceiling of 10,000 the second cycle is held there
  pub held : block_at v start (fixed low) (line ∷ []) 1 ≡ replicate samples (pos low)
