use native.Mathlib.Omega.{arith}
use Rattle.settings_records.proofs.Telling.{told-change-refused, told-change-room, told-change-few, told-change-taken}
use Rattle.settings_records.proofs.change.Goals as goal

pub returns-in-Err : goal.returns-in-Err
returns-in-Err c =
    let p = told-change-refused c.args.settings c.args.area.now c.args.handed.now c.judge_change.ensures c.in-Err.is in record { value = p.0; area_after = p.1 }

pub lay-requires : goal.lay-requires
lay-requires c =
    told-change-room c.args.settings c.args.area.now c.args.handed.now c.judge_change.ensures c.in-Ok.is

pub overflow_add-result : goal.overflow_add-result
overflow_add-result c =
    omega (arith, told-change-few c.args.settings c.args.area.now c.args.handed.now c.judge_change.ensures c.in-Ok.is)

pub returns-in-Ok : goal.returns-in-Ok
returns-in-Ok c =
    let p = told-change-taken c.args.settings c.args.area.now c.args.handed.now c.judge_change.ensures c.in-Ok.is c.lay.ensures in record { value = p.0; area_after = p.1 }
