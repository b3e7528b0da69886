use mathlib.Core.Path.{◌≡◌, refl, ◌∙◌}
use native.Mathlib.Omega.{arith}
use Rattle.std.specs.Prelude.{Ok, Err}
use Rattle.std.proofs.lemmas.Result.{err_from_is_err_and}
use Rattle.midi_messages.proofs.Gathering.{starts, again, again-none, ends-fault, ends-whole, ends-cut}
use Rattle.midi_messages.proofs.read_call.Goals as goal
use Rattle.midi_messages.proofs.read_call.Goals.{in-Some, in_default}

pub loop-i-init : goal.loop-i-init
loop-i-init c =
    search starts

pub returns-in_err-q : goal.returns-in_err-q
returns-in_err-q c =
    let r : c.advance.result ≡ Err c.in_err-q.field-0.0 = grind arith in
    let p = err_from_is_err_and c.from_residual.result c.from_residual.ensures.1 in
    rw (p.1, p.2) (search ends-fault)

pub loop-i-preserved : goal.loop-i-preserved
loop-i-preserved c =
    let r : c.advance.result ≡ Ok (c.in_ok-q.q, c.in_ok-q.h) = grind arith in
    elim c.match-h.branch [
      | in-Some w ↦ again c.loop-i.invariant c.loop-i-test.true refl c.advance.ensures r w.in-Some.is (w.g-is ∙ w.add-g.ensures)
      | in_default w ↦ rw w.g-is (again-none c.loop-i.invariant c.loop-i-test.true refl c.advance.ensures r w.in_default.is)
    ]

pub returns-then-p-ne0 : goal.returns-then-p-ne0
returns-then-p-ne0 c =
    search ends-cut

pub returns : goal.returns
returns c =
    search ends-whole
