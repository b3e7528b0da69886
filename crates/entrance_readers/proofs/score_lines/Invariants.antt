use Prim.Native.Nat.{◌≤◌, ◌-◌}
use native.Mathlib.Omega.{arith}
use Rattle.base_bitstream.specs.Bits.{bits_of}
use Rattle.score_reader.specs.Score.{score_of}
use Rattle.score_reader.specs.inside.Walk.{Ahead}
use Rattle.entrance_readers.proofs.Gathering.{score-told, Gathered, score-start, score-steps, gather-next, gather-end}
use Rattle.entrance_readers.proofs.score_lines.Given as goal

abbrev pub invariant-loop-i : goal.invariant-loop-i
invariant-loop-i l = (l.m ≤ 65) × Gathered (Ahead (bits_of l.s)) (score_of (bits_of l.s)).lines l.m l.lines l.c l.i
