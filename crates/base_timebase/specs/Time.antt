-- Document 01: which 32-bit patterns are times, durations, tempos and values, and the ticks of a time and of a tempo. Definitions and statements only.
use Rattle.std.specs.Prelude.{◌≡◌, ℕ, ◌+◌, ◌*◌, ◌/◌, ◌^◌, ◌<◌, ◌≤◌, Bool, true, false, cond, ◌&&◌, ◌||◌, ℤ, pos, ◌==◌, nat_lt, Float}
use Rattle.std.specs.Float.{nan, inf, fin, binary32}
use Rattle.std.specs.Float.Ieee.{up, down, le, of_bits, to_bits}
use Rattle.std.specs.Float.Ieee.Scale.{finite}

-- the latest time, 16,384 beats (1 * 2 ^ 14)
abbrev pub latest : Float
latest = fin false 1 (pos 14)

-- the slowest and the fastest tempo, 1 (1 * 2 ^ 0) and 960 (15 * 2 ^ 6)
abbrev pub slowest : Float
slowest = fin false 1 (pos 0)

abbrev pub fastest : Float
fastest = fin false 15 (pos 6)

-- the duration that means without end: -1
abbrev pub endless : Float
endless = fin true 1 (pos 0)

-- ---- which 32-bit patterns are accepted

-- values are finite
unfoldable pub finite_bits : ℕ → Bool
unfolding of_bits
finite_bits b = finite (of_bits binary32 b)

-- a time is zero or more (sign bit clear) and at most 16,384
unfoldable pub time_bits : ℕ → Bool
unfolding le of_bits
time_bits b = nat_lt b (2 ^ 31) && le (of_bits binary32 b) latest

-- a duration is the same, or exactly -1
unfoldable pub duration_bits : ℕ → Bool
unfolding time_bits to_bits
duration_bits b = time_bits b || b == to_bits binary32 endless

-- a tempo is from 1 to 960
unfoldable pub tempo_bits : ℕ → Bool
unfolding le of_bits
tempo_bits b = le slowest (of_bits binary32 b) && le (of_bits binary32 b) fastest

-- ---- ticks, by the exact number m * 2 ^ e that a float is, which is the fraction m * up e / down e

-- a / c to the nearest whole number, an exact half going up, for a c above 0
unfoldable pub nearest : ℕ → ℕ → ℕ
nearest a c = (a * 2 + c) / (c * 2)

-- the exact number times 6,144,000, to the nearest whole number; 0 for what is below zero or no number
unfoldable pub ticks_of : Float → ℕ
unfolding nearest
ticks_of nan = 0
ticks_of (inf s) = 0
ticks_of (fin true m e) = 0
ticks_of (fin false m e) = nearest (m * up e * 6144000) (down e)

-- ticks of a time or duration: 0 past the latest time
unfoldable pub ticks_in : Float → ℕ
unfolding ticks_of le
ticks_in x = cond (le x latest) (ticks_of x) 0

-- the exact number times 1,024, rounded down; 0 for what is below zero or no number
unfoldable pub cycle_of : Float → ℕ
cycle_of nan = 0
cycle_of (inf s) = 0
cycle_of (fin s m e) = cond s 0 (m * up e * 1024 / down e)

-- ticks per cycle of a tempo: 0 out of its range
unfoldable pub cycle_in : Float → ℕ
unfolding cycle_of le
cycle_in x = cond (le slowest x && le x fastest) (cycle_of x) 0

-- ---- what nearest comes to

-- n is a / c to the nearest whole number, an exact half going up: n is at most a half above it, and less than a half below
pub record Nearest (a c n : ℕ) : Type 0 where
  pub above : n * c * 2 ≤ a * 2 + c
  pub below : a * 2 < n * c * 2 + c

-- the ticks of every time, which is the fraction m * up e / down e of a beat
abbrev pub TicksNearest : Type 0
TicksNearest = (m : ℕ) (e : ℤ) → le (fin false m e) latest ≡ true → Nearest (m * up e * 6144000) (down e) (ticks_in (fin false m e))

-- and no other number is
abbrev pub OneNearest : Type 0
OneNearest = (a c n k : ℕ) → Nearest a c n → Nearest a c k → n ≡ k
