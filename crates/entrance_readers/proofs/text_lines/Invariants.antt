use Prim.Native.Nat.{◌≤◌, ◌-◌}
use native.Mathlib.Omega.{arith}
use Rattle.text_format.specs.inside.Reading.{text_of}
use Rattle.text_reader.specs.Texts.{Ahead}
use Rattle.entrance_readers.proofs.Gathering.{text-told, Gathered, text-start, text-steps, gather-next, gather-end}
use Rattle.entrance_readers.proofs.text_lines.Given as goal

abbrev pub invariant-loop-i : goal.invariant-loop-i
invariant-loop-i l = (l.m ≤ 65) × Gathered (Ahead l.s) (text_of l.s).lines l.m l.lines l.at l.i
