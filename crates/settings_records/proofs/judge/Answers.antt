use native.Mathlib.Omega.{arith}
use mathlib.Core.Path.{refl}
use Rattle.settings_records.proofs.Telling.{told-change-refused, told-change-few, told-change-taken}
use Rattle.settings_records.proofs.judge.Goals as goal

pub returns-in-Err : goal.returns-in-Err
returns-in-Err c =
    (told-change-refused c.args.settings c.args.area.now c.args.handed.now c.judge_change.ensures c.in-Err.is).0

pub overflow_add-result : goal.overflow_add-result
overflow_add-result c =
    omega (arith, told-change-few c.args.settings c.args.area.now c.args.handed.now c.judge_change.ensures c.in-Ok.is)

pub returns-in-Ok : goal.returns-in-Ok
returns-in-Ok c =
    (told-change-taken c.args.settings c.args.area.now c.args.handed.now c.judge_change.ensures c.in-Ok.is refl).0
