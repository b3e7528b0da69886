use mathlib.Core.Path.{refl}
use Prim.Native.Nat.{◌-◌}
use native.Mathlib.Omega.{arith}
use borrow.Author.Rules.{rules}
use Rattle.code_program.specs.InstrumentTable.{instruments_of}
use Rattle.score_bursts.specs.inside.Reading.{burst_of}
use Rattle.score_bursts.specs.Bursts.{units_in}
use Rattle.entrance_burst.proofs.Sending.{Sending, send-start, send-inside, send-length, send-place, send-next, send-queue, send-area}
use Rattle.entrance_burst.proofs.submit_units.Given as goal

abbrev pub invariant-loop-i : goal.invariant-loop-i
invariant-loop-i l = Sending l.ended (instruments_of l.instruments) l.initial.q l.s (units_in (burst_of l.s)) l.m l.initial.answers l.q l.at l.i l.answers
