-- What plays, in the code's numbers. Definitions only.
use Rattle.std.specs.Prelude.{ℕ, min}
use Rattle.player_model.specs.PlayerState.{PlayingState}

-- the largest count that a 64-bit number holds
abbrev pub most_counted : ℕ
most_counted = 18446744073709551615

module _ {S : Type 0} where
  -- the count of missed notes as far as 64 bits go
  unfoldable pub capped : PlayingState S → PlayingState S
  capped p =
      record {
        notes = p.notes;
        position = p.position;
        tempo = p.tempo;
        counts = record { missed = min p.counts.missed most_counted };
        ended = p.ended;
      }
