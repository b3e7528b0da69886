use mathlib.Core.Path.{◌≡◌}
use native.Mathlib.Omega.{arith}
use Rattle.std.specs.Prelude.{Ok, Err}
use Rattle.std.proofs.lemmas.Result.{err_from_is_err_and}
use Rattle.settings_records.specs.Form.{found}
use Rattle.settings_records.proofs.Walk.{walk_start, walk_end}
use Rattle.settings_records.proofs.Telling.{told_as, told-walk-fault, told-walk-size, told-walk-next}
use Rattle.settings_records.proofs.read_records.Goals as goal

pub loop-n-init : goal.loop-n-init
loop-n-init c =
    walk_start _ _

pub returns-in_err-setting : goal.returns-in_err-setting
returns-in_err-setting c =
    let r : c.read.result ≡ Err c.in_err-setting.field-0.0 = grind arith in
    let p = err_from_is_err_and c.from_residual.result c.from_residual.ensures.1 in
    rw (p.1, p.2) (told-walk-fault c.loop-n.invariant c.loop-n-test.true c.read.ensures r)

pub overflow_add-at : goal.overflow_add-at
overflow_add-at c =
    let r : c.read.result ≡ Ok (c.in_ok-setting.setting, c.in_ok-setting.size) = grind arith in
    omega (arith, (told-walk-size c.loop-n.invariant c.loop-n-test.true c.read.ensures r).1)

pub loop-n-preserved : goal.loop-n-preserved
loop-n-preserved c =
    let r : c.read.result ≡ Ok (c.in_ok-setting.setting, c.in_ok-setting.size) = grind arith in
    told-walk-next c.loop-n.invariant c.loop-n-test.true c.read.ensures r

pub returns : goal.returns
returns c =
    told_as (found c.loop-n.last c.loop-n.at) _ (walk_end c.loop-n.invariant c.loop-n-test.false)
