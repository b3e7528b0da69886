-- What two players hold alike, where their notes' states are of two kinds: all else is the same, and the states are related.
use Rattle.std.specs.Prelude.{◌≡◌, List, [], ◌∷◌}
use Rattle.player_model.specs.Cycle.{Note}
use Rattle.player_model.specs.PlayerState.{PlayerState}

module _ {S S' : Type 0} (R : S → S' → Type 0) where
  pub record NoteAs (m : Note S) (n : Note S') : Type 0 where
    pub label : m.label ≡ n.label
    pub end : m.end ≡ n.end
    pub priority : m.priority ≡ n.priority
    pub key : m.key ≡ n.key
    pub released : m.released ≡ n.released
    pub state : R m.state n.state

  -- note by note, in the same order
  abbrev pub NotesAs : List (Note S) → List (Note S') → Type 0
  NotesAs [] [] = Unit {0}
  NotesAs [] (n ∷ ns) = ⊥
  NotesAs (m ∷ ms) [] = ⊥
  NotesAs (m ∷ ms) (n ∷ ns) = NoteAs m n × NotesAs ms ns

  pub record StateAs (h : PlayerState S) (g : PlayerState S') : Type 0 where
    pub waits : h.waits ≡ g.waits
    pub messages : h.messages ≡ g.messages
    pub notes : NotesAs h.plays.notes g.plays.notes
    pub position : h.plays.position ≡ g.plays.position
    pub tempo : h.plays.tempo ≡ g.plays.tempo
    pub counts : h.plays.counts ≡ g.plays.counts
    pub ended : h.plays.ended ≡ g.plays.ended
