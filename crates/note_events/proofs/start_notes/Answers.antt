use mathlib.Core.Path.{◌≡◌, ap, ◌∙◌}
use Prim.Native.Nat.{ℕ, ◌<◌, ◌-◌}
use native.Mathlib.Omega.{arith}
use lib.ListN.{length, take}
use Rattle.code_program.specs.InstrumentTable.{instruments_of}
use Rattle.base_laws.proofs.Lists.{take_min}
use Rattle.player_model.specs.Lists.{each, fold}
use Rattle.player_model.specs.Cycle.{started}
use Rattle.player_model.proofs.Loops.{take-end}
use Rattle.voices_compiled.specs.Voices.{voices}
use Rattle.note_pool.specs.Notes.{started_over}
use Rattle.note_lifecycle.specs.OneNote.{note_of}
use Rattle.note_pool.proofs.Steps.{starting-none, starting-end}
use Rattle.note_events.proofs.Rendered.{starting-more}
use Rattle.note_events.proofs.start_notes.Goals as goal

pub loop-i-init : goal.loop-i-init
unfolding started fold
loop-i-init c = (
  omega (arith, c.min-w.ensures),
  omega (arith, c.min-w.ensures),
  omega arith,
  c.requires.0,
  c.requires.1,
  starting-none _ c.well_formed.1.1.1.0.1.1.0.1.0.1 (omega (arith, c.min.ensures)),
)

pub start_line-v-requires : goal.start_line-v-requires
start_line-v-requires c =
    (c.loop-i.invariant.5.room, omega arith, c.loop-i.invariant.3, c.loop-i.invariant.4)

pub loop-i-preserved : goal.loop-i-preserved
loop-i-preserved c =
    let l : length c.args.due.lines ≡ 64 = c.well_formed.1.1.1.1.0.1.1.0.1.0.1 in
    let h : c.loop-i.i < length c.args.due.lines = omega (arith, l) in (
      omega arith,
      c.loop-i.invariant.1,
      omega (arith, c.start_line-v.ensures.few, c.loop-i.invariant.2),
      c.loop-i.invariant.3,
      c.loop-i.invariant.4,
      starting-more _ _ _ _ _ _ c.args.due.lines _ _ _ _ _ h c.loop-i.invariant.5 c.start_line-v.ensures,
    )

pub returns : goal.returns
returns c =
    let a = c.args in
    let v = voices (instruments_of a.instruments) a.code.now a.vals.now in
    let l : length a.due.lines ≡ 64 = c.well_formed.1.1.1.1.0.1.1.0.1.0.1 in
    let k : length a.old.notes ≡ 16 = c.well_formed.1.1.1.0.1.1.0.1.0.1 in
    let l_eq = take-end a.due.lines a.due.count 64 _ l _ c.min-w.ensures c.loop-i.invariant.0 c.loop-i-test.false in
    let n-eq : take c.min.result a.old.notes ≡ take a.old.count a.old.notes =
    ap (λ (k : ℕ). take k a.old.notes) c.min.ensures ∙ take_min a.old.notes a.old.count 16 k in (
      starting-end _ _ _ c.loop-i.invariant.5
          ∙ (λ i. started_over (started v a.most a.position (each note_of (n-eq i)) (l_eq i)) a.old.notes),
      omega (arith, c.loop-i.invariant.2),
    )
