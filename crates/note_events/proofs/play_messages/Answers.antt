use mathlib.Core.Path.{◌≡◌, ap, ◌∙◌}
use Prim.Native.Nat.{ℕ, ◌<◌, ◌-◌}
use native.Mathlib.Omega.{arith}
use lib.ListN.{length, take}
use Rattle.code_program.specs.InstrumentTable.{instruments_of}
use Rattle.base_laws.proofs.Lists.{take_min}
use Rattle.player_model.specs.Lists.{each, fold}
use Rattle.player_model.specs.Cycle.{after_messages}
use Rattle.player_model.proofs.Loops.{take-end}
use Rattle.voices_compiled.specs.Voices.{voices}
use Rattle.note_pool.specs.Notes.{started_over}
use Rattle.note_lifecycle.specs.OneNote.{note_of}
use Rattle.note_pool.proofs.Steps.{starting-none, starting-end}
use Rattle.note_events.proofs.Rendered.{messages-more}
use Rattle.note_events.proofs.play_messages.Goals as goal

pub loop-next-init : goal.loop-next-init
unfolding after_messages fold
loop-next-init c = (
  omega (arith, c.min-count.ensures),
  omega (arith, c.min-count.ensures),
  omega (arith, c.requires),
  c.requires.1,
  starting-none _ c.well_formed.1.1.1.0.1.1.0.1.0.1 (omega (arith, c.min.ensures)),
)

pub play_message-v-requires : goal.play_message-v-requires
play_message-v-requires c =
    (c.loop-next.invariant.4.room, omega arith, c.loop-next.invariant.3)

pub loop-next-preserved : goal.loop-next-preserved
loop-next-preserved c =
    let h : c.loop-next.next < length c.args.messages = omega (arith, c.well_formed.1.1.1.1.1.0.1.0.1) in (
      omega arith,
      c.loop-next.invariant.1,
      omega (arith, c.play_message-v.ensures.few, c.loop-next.invariant.2),
      c.loop-next.invariant.3,
      messages-more _ _ _ _ _ _ c.args.messages _ _ _ _ _ h c.loop-next.invariant.4 c.play_message-v.ensures,
    )

pub returns : goal.returns
returns c =
    let a = c.args in
    let v = voices (instruments_of a.instruments) a.code.now a.vals.now in
    let l : length a.old.notes ≡ 16 = c.well_formed.1.1.1.0.1.1.0.1.0.1 in
    let m-eq = take-end a.messages a.m 64 _ c.well_formed.1.1.1.1.1.0.1.0.1 _ c.min-count.ensures c.loop-next.invariant.0 c.loop-next-test.false in
    let n-eq : take c.min.result a.old.notes ≡ take a.old.count a.old.notes =
    ap (λ (k : ℕ). take k a.old.notes) c.min.ensures ∙ take_min a.old.notes a.old.count 16 l in (
      starting-end _ _ _ c.loop-next.invariant.4
          ∙ (λ i. started_over (after_messages v a.most a.chosen (record { notes = each note_of (n-eq i); missed = a.old.missed }) (m-eq i)) a.old.notes),
      omega (arith, c.loop-next.invariant.2),
    )
