-- Document 01's plain player: it holds every line from the start and has no entrances. Its settings go by the number of the cycle; the
-- starting tempo is none of them.
use Rattle.std.specs.Prelude.{false, List, [], ℕ, zero, suc, ℤ, Float}
use Rattle.score_line.specs.declared.Line.{Line}
use Rattle.player_model.specs.Cycle.{Voices}
use Rattle.player_model.specs.PlayerState.{Settings, PlayerState, due_of, answer_of, block_of, cycled}

-- the whole list waits, position 0, the starting tempo, no notes and none missed
unfoldable pub plain_start : {S : Type 0} → Float → List Line → PlayerState S
plain_start start ls =
    record {
      waits = ls;
      messages = [];
      plays = record { notes = []; position = 0; tempo = start; counts = record { missed = 0 }; ended = false };
    }

module _ {S : Type 0} (v : Voices S) (start : Float) (settings : ℕ → Settings) where
  -- the plain player before its cycle k, counted from 0
  unfoldable pub plain_at : List Line → ℕ → PlayerState S
  plain_at ls zero = plain_start start ls
  plain_at ls (suc k) = cycled v (settings k) (plain_at ls k)

  -- the answer and the block of its cycle k
  unfoldable pub answer_at : List Line → ℕ → ℕ
  answer_at ls k = answer_of (plain_at ls k)

  unfoldable pub block_at : List Line → ℕ → List ℤ
  block_at ls k = block_of v (settings k) (due_of (plain_at ls k)) (plain_at ls k).plays
