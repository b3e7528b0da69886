use mathlib.Core.Path.{◌≡◌}
use native.Mathlib.Omega.{arith}
use Rattle.std.specs.Prelude.{Some, None}
use Rattle.base_answer.specs.declared.Answer.TheVariants.{CutShort}
use Rattle.std.proofs.lemmas.Result.{err_from_is_err_and}
use Rattle.symbol_unpacker.proofs.Measuring.{opened, is-counted, not_opened, judge-holds, judge-left-over, judge-cut}
use Rattle.symbol_unpacker.proofs.judge.Goals as goal

pub measure-requires : goal.measure-requires
measure-requires c =
    let r : c.read.result ≡ Some (c.in_ok-count.count, c.in_ok-count.field-0-1) = grind arith in
    search is-counted

pub returns-then-is_filled : goal.returns-then-is_filled
returns-then-is_filled c =
    let r : c.read.result ≡ Some (c.in_ok-count.count, c.in_ok-count.field-0-1) = grind arith in
    let m : c.measure.result ≡ Some (c.in_ok-end.end, c.in_ok-end.total) = grind arith in
    search (opened, judge-holds)

pub returns : goal.returns
returns c =
    let r : c.read.result ≡ Some (c.in_ok-count.count, c.in_ok-count.field-0-1) = grind arith in
    let m : c.measure.result ≡ Some (c.in_ok-end.end, c.in_ok-end.total) = grind arith in
    search (opened, judge-left-over)

pub returns-in_err-end : goal.returns-in_err-end
returns-in_err-end c =
    let r : c.read.result ≡ Some (c.in_ok-count.count, c.in_ok-count.field-0-1) = grind arith in
    let m : c.measure.result ≡ None = grind arith in
    let p = err_from_is_err_and c.from_residual-in_err-end.result c.from_residual-in_err-end.ensures.1 in
    let a : c.in_err-end.field-0.0 ≡ CutShort = grind arith in
    rw (p.1, p.2, a) (search (opened, judge-cut))

pub returns-in_err-count : goal.returns-in_err-count
returns-in_err-count c =
    let r : c.read.result ≡ None = grind arith in
    let p = err_from_is_err_and c.from_residual.result c.from_residual.ensures.1 in
    let a : c.in_err-count.field-0.0 ≡ CutShort = grind arith in
    rw (p.1, p.2, a) (search not_opened)
