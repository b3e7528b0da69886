-- The notes by place and the notes as they are written: the same lines make the same of both. Statements and what they need.
use Rattle.std.specs.Prelude.{ℕ, Float, ◌≡◌, true, List}
use Rattle.score_line.specs.declared.Line.{Line}
use Rattle.orchestra_syntax.specs.Tree.{Instrument}
use Rattle.orchestra_syntax.specs.Names.{names_of, name_rules}
use Rattle.player_model.specs.Lists.{All}
use Rattle.settings_records.specs.declared.InUse.{InUse}
use Rattle.player_model.specs.PlayerState.{Settings, due_of, block_of}
use Rattle.player_model.specs.Calls.{Transition, all_taken}
use Rattle.player_model.specs.History.{history_of}
use Rattle.player_model.specs.Plain.{plain_at, answer_at, block_at}
use Rattle.voices_compiled.specs.Voices as by_place
use Rattle.orchestra_semantics.specs.Meaning.{instrument_of}
use Rattle.voices_resolved.specs.Tree.{tree_voices}
use Rattle.orchestra_semantics.specs.inside.Translation.{Stands}
use Rattle.voices_source.specs.Alike.{StateAs}
use Rattle.voices_source.specs.Voices.{VoiceState, written_voices, Fits}

-- a note's values by place are those by symbol, of the same instrument
pub record HeldAs (is : List Instrument) (s : by_place.VoiceState) (t : VoiceState) : Type 0 where
  pub instrument : s.instrument ≡ t.instrument
  pub values : Stands (names_of (instrument_of is s.instrument)) s.values t.memory.values

-- with such lines the plain player by place is the plain player as written, in every cycle
pub record PlaysAsWritten (is : List Instrument) (start : Float) (settings : ℕ → Settings) (ls : List Line) (n : ℕ) : Type 0 where
  pub answers : answer_at (tree_voices is) start settings ls n ≡ answer_at (written_voices is) start settings ls n
  pub blocks : block_at (tree_voices is) start settings ls n ≡ block_at (written_voices is) start settings ls n
  -- before the cycle
  pub position : (plain_at (tree_voices is) start settings ls n).plays.position ≡ (plain_at (written_voices is) start settings ls n).plays.position
  pub missed : (plain_at (tree_voices is) start settings ls n).plays.counts.missed ≡ (plain_at (written_voices is) start settings ls n).plays.counts.missed

abbrev pub EveryPiece : Type 0
EveryPiece =
    (is : List Instrument) (start : Float) (settings : ℕ → Settings) (ls : List Line) (n : ℕ) → name_rules is ≡ true → All (λ (l : Line). Fits is l l.event) ls
    → PlaysAsWritten is start settings ls n

-- and so is what a list of calls leaves by its history, and the block of the cycle that follows it
pub record PastAsWritten {P : Type 0} (is : List Instrument) (chosen : ℕ) (k : InUse) (ms : List (Transition P)) : Type 0 where
  pub holds : StateAs (HeldAs is) (history_of (tree_voices is) chosen k ms).holds (history_of (written_voices is) chosen k ms).holds
  pub set : (history_of (tree_voices is) chosen k ms).set ≡ (history_of (written_voices is) chosen k ms).set
  pub reached : (history_of (tree_voices is) chosen k ms).reached ≡ (history_of (written_voices is) chosen k ms).reached
  pub block : (s : Settings)
      → block_of (tree_voices is) s (due_of (history_of (tree_voices is) chosen k ms).holds) (history_of (tree_voices is) chosen k ms).holds.plays
      ≡ block_of (written_voices is) s (due_of (history_of (written_voices is) chosen k ms).holds) (history_of (written_voices is) chosen k ms).holds.plays

abbrev pub EveryPast : Type 1
EveryPast =
    (P : Type 0) (is : List Instrument) (chosen : ℕ) (k : InUse) (ms : List (Transition P)) → name_rules is ≡ true
    → All (λ (l : Line). Fits is l l.event) (all_taken ms) → PastAsWritten is chosen k ms
