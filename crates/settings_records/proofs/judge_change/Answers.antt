use mathlib.Core.Path.{◌≡◌}
use native.Mathlib.Omega.{arith}
use Rattle.std.specs.Prelude.{Ok, Err}
use Rattle.std.proofs.lemmas.Result.{err_from_is_err_and}
use Rattle.settings_records.proofs.Telling.{told-length, told-used-fault, told-used-size, told-new-fault, told-left-over, told-no-room, told-goes-in}
use Rattle.settings_records.proofs.judge_change.Goals as goal

pub returns-then-area-ne-AREA : goal.returns-then-area-ne-AREA
returns-then-area-ne-AREA c =
    search told-length

pub returns-in_err-end : goal.returns-in_err-end
returns-in_err-end c =
    let r : c.read_records.result ≡ Err c.in_err-end.field-0.0 = grind arith in
    let p = err_from_is_err_and c.from_residual.result c.from_residual.ensures.1 in
    rw (p.1, p.2) (search told-used-fault)

pub returns-in_err-setting : goal.returns-in_err-setting
returns-in_err-setting c =
    let w : c.read_records.result ≡ Ok (c.in_ok-end.field-0-0, c.in_ok-end.end) = grind arith in
    let q : c.read.result ≡ Err c.in_err-setting.field-0.0 = grind arith in
    let p = err_from_is_err_and c.from_residual-in_err-setting.result c.from_residual-in_err-setting.ensures.1 in
    rw (p.1, p.2) (search told-new-fault)

pub returns-then-size-handed : goal.returns-then-size-handed
returns-then-size-handed c =
    let r : c.read_records.result ≡ Ok (c.in_ok-end.field-0-0, c.in_ok-end.end) = grind arith in
    let q : c.read.result ≡ Ok (c.in_ok-setting.setting, c.in_ok-setting.size) = grind arith in
    search told-left-over

pub overflow_sub-end : goal.overflow_sub-end
overflow_sub-end c =
    let r : c.read_records.result ≡ Ok (c.in_ok-end.field-0-0, c.in_ok-end.end) = grind arith in
    search told-used-size

pub returns-then-end-size : goal.returns-then-end-size
returns-then-end-size c =
    let r : c.read_records.result ≡ Ok (c.in_ok-end.field-0-0, c.in_ok-end.end) = grind arith in
    let q : c.read.result ≡ Ok (c.in_ok-setting.setting, c.in_ok-setting.size) = grind arith in
    search told-no-room

pub returns : goal.returns
returns c =
    let r : c.read_records.result ≡ Ok (c.in_ok-end.field-0-0, c.in_ok-end.end) = grind arith in
    let q : c.read.result ≡ Ok (c.in_ok-setting.setting, c.in_ok-setting.size) = grind arith in
    search told-goes-in
