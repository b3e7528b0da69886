use mathlib.Core.Path.{◌≡◌, refl, ap, ◌∙◌, subst}
use mathlib.Core.List.{List, []}
use Prim.Native.Nat.{ℕ, ◌<◌, ◌-◌}
use native.Mathlib.Omega.{arith}
use lib.ListN.{length, take, get_or}
use Rattle.code_program.specs.InstrumentTable.{instruments_of}
use Rattle.score_line.specs.declared.Line.{Line}
use Rattle.player_model.specs.Lists.{fold, over}
use Rattle.player_model.proofs.Loops.{take-end}
use Rattle.note_events.specs.Controls.{controls_in, controlled_all}
use Rattle.note_pool.proofs.Steps.{over-self}
use Rattle.note_events.proofs.Rendered.{control-more}
use Rattle.note_events.proofs.control_lines.Goals as goal

pub loop-i-init : goal.loop-i-init
unfolding controlled_all fold
loop-i-init c =
    (omega (arith, c.min-w.ensures), omega (arith, c.min-w.ensures), refl, over-self c.args.notes.count c.args.notes.notes)

pub loop-i-preserved : goal.loop-i-preserved
loop-i-preserved c =
    let at = c.loop-i in
    let h : at.i < length c.args.lines = omega (arith, c.well_formed.1.1.0.1.0.1) in
    let t = instruments_of c.args.instruments in
    let k = c.args.notes.count in (
      omega arith,
      at.invariant.1,
      c.control_line-v.ensures.0 ∙ at.invariant.2,
      control-more t [] [] c.args.notes.notes k at.i _ c.args.lines h at.v.notes _ at.invariant.3
          (subst (λ (x : ℕ). c.control_line-v.result.notes ≡ over (controls_in t (take x at.v.notes) (get_or c.args.lines at.i _).event) at.v.notes) at.invariant.2 c.control_line-v.ensures.1),
    )

pub returns : goal.returns
returns c =
    let at = c.loop-i in (
      at.invariant.2,
      at.invariant.3 ∙ ap (λ (ls : List Line). over (controlled_all (instruments_of c.args.instruments) (take c.args.notes.count c.args.notes.notes) ls) c.args.notes.notes)
          (take-end c.args.lines c.args.m 64 _ c.well_formed.1.1.0.1.0.1 _ c.min-w.ensures at.invariant.0 c.loop-i-test.false),
    )
