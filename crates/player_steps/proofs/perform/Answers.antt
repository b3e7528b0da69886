use mathlib.Core.Path.{ap, ◌∙◌}
use Prim.Native.Nat.{ℕ, min}
use lib.ListN.{take}
use Rattle.code_program.specs.InstrumentTable.{instruments_of}
use Rattle.note_events.proofs.Rendered.{control-lines-are}
use native.Mathlib.Omega.{arith}
use borrow.Author.Rules.{rules}
use Rattle.player_steps.specs.Steps.{due_in}
use Rattle.player_steps.proofs.Steps.{born-law, sounds-law, heard-law, perform-law, block-law}
use Rattle.player_steps.proofs.perform.Goals as goal

pub play_messages-k-requires : goal.play_messages-k-requires
play_messages-k-requires c =
    (c.start_notes-v.ensures.1, omega arith)

pub add_missed-requires : goal.add_missed-requires
add_missed-requires c =
    omega (arith, c.play_messages-k.ensures.1)

pub returns : goal.returns
returns c =
    let a = c.args in
    let t = instruments_of a.instruments in
    let due = due_in a.due in
    let x = a.settings in
    let b = born-law t a.code.now a.vals.now x.ceiling (min x.notes 16) x.chosen a.p due c.min-most.result c.min-most.ensures c.start_notes-v.result c.start_notes-v.ensures.0 in
    let controlled = ap (λ (n : ℕ). take n c.control_lines-c.result.notes) c.control_lines-c.ensures.0
    ∙ control-lines-are t a.code.now a.vals.now c.start_notes-v.result.notes c.start_notes-v.result.count due.lines c.control_lines-c.result.notes c.control_lines-c.ensures.1 in
    let e = sounds-law t a.code.now a.vals.now x.ceiling (min x.notes 16) x.chosen a.p due c.min-most.result c.min-most.ensures c.start_notes-v.result.notes c.start_notes-v.result.count c.start_notes-v.result.missed b
    c.control_lines-c.result.notes c.control_lines-c.result.count controlled c.play_messages-k.result c.play_messages-k.ensures.0 in
    let sounded = heard-law t a.code.now a.vals.now x.ceiling (min x.notes 16) x.chosen a.p due c.play_messages-k.result.notes c.play_messages-k.result.count c.play_messages-k.result.missed e
    c.sound-h.result.notes c.sound-h.result.count c.sound-h.ensures.notes.0 c.sound-h.ensures.notes.1 in record {
      notes = perform-law t a.code.now a.vals.now x.ceiling (min x.notes 16) x.chosen a.p due c.play_messages-k.result.notes c.play_messages-k.result.count c.play_messages-k.result.missed e
          c.sound-h.result.notes c.sound-h.result.count sounded c.remaining-g.result.notes c.remaining-g.result.count c.remaining-g.ensures.0 c.remaining-g.ensures.1
          _ c.copied_over-out.ensures _ c.add_missed.ensures;
      block = block-law t a.code.now a.vals.now x.ceiling (min x.notes 16) x.chosen a.p due c.play_messages-k.result.notes c.play_messages-k.result.count c.play_messages-k.result.missed e
          a.block.now _ c.sound-h.ensures.block;
    }
