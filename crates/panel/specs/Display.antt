-- What a host is told to show: the numbers that the display calls give.
use Rattle.std.specs.Prelude.{Bool, ℕ}
use Rattle.panel.specs.declared.Core.{Core}

pub record Display : Type 0 where
  -- how many notes were missed
  pub missed : ℕ
  -- how many lines and note messages wait
  pub lines : ℕ
  pub messages : ℕ
  -- how many notes sound
  pub notes : ℕ
  pub ended : Bool
  -- in ticks
  pub position : ℕ

abbrev pub display_of : Core → Display
display_of c =
    let s = c.state in
    record {
      missed = s.playing.missed;
      lines = s.queue.count;
      messages = s.messages.count;
      notes = s.playing.notes.count;
      ended = s.playing.ended;
      position = s.playing.position;
    }
