use mathlib.Core.Path.{◌≡◌}
use native.Mathlib.Omega.{arith}
use Rattle.std.specs.Prelude.{Ok, Err}
use Rattle.std.proofs.lemmas.Result.{err_from_is_err_and}
use Rattle.midi_queue.proofs.Behind.{press-refuses, press-full, press-fits}
use Rattle.midi_queue.proofs.enqueue.Goals as goal

pub returns-in_err-g : goal.returns-in_err-g
returns-in_err-g c =
    let r : c.read_call.result ≡ Err c.in_err-g.field-0.0 = grind arith in
    let p = err_from_is_err_and c.from_residual.result c.from_residual.ensures.1 in
    rw (p.1, p.2) (press-refuses c.args.waiting _ c.read_call.ensures r)

pub overflow_sub-n : goal.overflow_sub-n
overflow_sub-n c =
    omega (arith, c.min-n.ensures)

pub returns-then-n-g : goal.returns-then-n-g
returns-then-n-g c =
    let r : c.read_call.result ≡ Ok c.in_ok-g.g = grind arith in
    press-full c.args.waiting c.well_formed.0.1.1.0.1.0.1 _ c.min-n.ensures _ c.read_call.ensures r c.if-n-g.true

pub returns : goal.returns
returns c =
    let r : c.read_call.result ≡ Ok c.in_ok-g.g = grind arith in
    press-fits c.args.waiting c.well_formed.0.1.1.0.1.0.1 _ c.min-n.ensures _ c.read_call.ensures r c.if-n-g.false _ c.appended.ensures
