-- Document 01, "Checked values", those marked P, with the ticks of document 02 (M-106): one table with one statement.
use Rattle.std.specs.Prelude.{ℕ, ◌≡◌, List, [], ◌∷◌, map, ℤ, pos, negsuc}
use Rattle.std.specs.Float.{binary32}
use Rattle.std.specs.Float.Ieee.{of_bits}
use Rattle.base_timebase.specs.Time.{ticks_in, cycle_in}
use Rattle.base_float32.specs.Limit.{sample_of}

-- what is asked of a float, which is written by its bits
pub data Question : Type 0 where
  -- the ticks of a time
  time : ℕ → Question
  -- the ticks per cycle of a tempo
  tempo : ℕ → Question
  -- the sample at ceiling 32,767
  sample : ℕ → Question

-- the answer that the definitions give
unfoldable pub answer_to : Question → ℤ
answer_to (time b) = pos (ticks_in (of_bits binary32 b))
answer_to (tempo b) = pos (cycle_in (of_bits binary32 b))
answer_to (sample b) = sample_of (of_bits binary32 b) 32767

pub record Row : Type 0 where
  pub asked : Question
  -- the answer that document 01, and document 02 for the ticks of two times, print
  pub printed : ℤ

abbrev row : Question → ℤ → Row
row q a = record { asked = q; printed = a }

abbrev pub table : List Row
table =
    -- times 0, 0.5, 1, 16,384, the smallest positive float, and the float nearest 0.1
    row (time 0) (pos 0)
    ∷ row (time 0x3f00_0000) (pos 3072000)
    ∷ row (time 0x3f80_0000) (pos 6144000)
    ∷ row (time 0x4680_0000) (pos 100663296000)
    ∷ row (time 1) (pos 0)
    ∷ row (time 0x3dcc_cccd) (pos 614400)
    -- tempos 60, 130 and 960
    ∷ row (tempo 0x4270_0000) (pos 61440)
    ∷ row (tempo 0x4302_0000) (pos 133120)
    ∷ row (tempo 0x4470_0000) (pos 983040)
    -- samples 0.5, 1 and -1; negsuc 32766 is -32,767
    ∷ row (sample 0x3f00_0000) (pos 16384)
    ∷ row (sample 0x3f80_0000) (pos 32767)
    ∷ row (sample 0xbf80_0000) (negsuc 32766)
    ∷ []

-- every row's answer is the printed one
abbrev pub EveryRowHolds : Type 0
EveryRowHolds = map (λ (r : Row). answer_to r.asked) table ≡ map (λ (r : Row). r.printed) table
