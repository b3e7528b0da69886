-- Two plain players, given different lists of lines, that show the same up to a cycle.
use Rattle.std.specs.Prelude.{◌≡◌, List, ℕ, suc, ◌≤◌, Float}
use Rattle.score_line.specs.declared.Line.{Line}
use Rattle.player_model.specs.Cycle.{Voices}
use Rattle.player_model.specs.PlayerState.{Settings, due_of}
use Rattle.player_model.specs.Plain.{plain_at, answer_at, block_at}

-- the same settings in the cycles 0 to n
abbrev pub SameSettings : ℕ → (ℕ → Settings) → (ℕ → Settings) → Type 0
SameSettings n s t = (k : ℕ) → k ≤ n → s k ≡ t k

-- In the cycles 0 to n of two plain players the same lines act; they answer the same and leave the same block, and what they count
-- after each of them, and all that plays then, is the same. Counts are compared whole.
pub record SameUpTo {S : Type 0} (v : Voices S) (start : Float) (s t : ℕ → Settings) (xs ys : List Line) (n : ℕ) : Type 0 where
  pub answers : (k : ℕ) → k ≤ n → answer_at v start s xs k ≡ answer_at v start t ys k
  pub due : (k : ℕ) → k ≤ n → due_of (plain_at v start s xs k) ≡ due_of (plain_at v start t ys k)
  pub blocks : (k : ℕ) → k ≤ n → block_at v start s xs k ≡ block_at v start t ys k
  pub counts : (k : ℕ) → k ≤ suc n → (plain_at v start s xs k).plays.counts ≡ (plain_at v start t ys k).plays.counts
  pub plays : (k : ℕ) → k ≤ suc n → (plain_at v start s xs k).plays ≡ (plain_at v start t ys k).plays
