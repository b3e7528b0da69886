use borrow.Author.Rules.{rules}
use native.Mathlib.Omega.{arith}
use Rattle.text_writer.specs.inside.Passes.{Measurable}
use Rattle.text_writer.proofs.Ends.{text-measurable, text-layable, text-taken, text-short-room, text-lacking, text-many, text-refused}
use Rattle.text_writer.proofs.write_text.Goals as goal

pub measured_lines-requires : goal.measured_lines-requires
measured_lines-requires c =
    text-measurable _ _ c.first_fault-fault.ensures c.is_taken.ensures c.if-not-is_taken.false (search rules)
    (λ i. omega (arith, c.type_inv.area i))

pub put_lines-requires : goal.put_lines-requires
put_lines-requires c =
    let m : Measurable c.args.area.now c.args.n = text-measurable _ _ c.first_fault-fault.ensures c.is_taken.ensures c.if-not-is_taken.false (search rules)
    (λ i. omega (arith, c.type_inv.area i)) in
    text-layable _ _ c.measured_lines.ensures _ m c.in-Ok.is (search rules)

pub returns-else-out-bytes : goal.returns-else-out-bytes
returns-else-out-bytes c =
    search text-taken

pub returns-then-out-bytes : goal.returns-then-out-bytes
returns-then-out-bytes c =
    search text-short-room

pub returns-in-Err : goal.returns-in-Err
returns-in-Err c =
    search text-lacking

pub returns-then-n-gt-MOST_LINES : goal.returns-then-n-gt-MOST_LINES
returns-then-n-gt-MOST_LINES c =
    search text-many

pub returns-then-not-is_taken : goal.returns-then-not-is_taken
returns-then-not-is_taken c =
    search text-refused
