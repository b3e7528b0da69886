use Rattle.std.proofs.Common.{◌∙◌, arith, rules}
use Rattle.orchestra_expressions.proofs.Moves.{place-ops, place-args, place-vals, more-on, more-gone, stored_on, stored-gone}
use Rattle.orchestra_expressions.proofs.emit.Goals as goal

pub returns-in_err-at : goal.returns-in_err-at
returns-in_err-at c =
    record { answer = c.from_residual.ensures ∙ more-gone c.in_err-at.was; code = stored-gone _ _ c.in_err-at.was }

pub bounds-ops-out : goal.bounds-ops-out
bounds-ops-out c =
    place-ops c.requires c.in_ok-at.was

pub offset_bounds-args-out : goal.offset_bounds-args-out
offset_bounds-args-out c =
    let h = place-args c.requires c.in_ok-at.was in omega arith

pub bounds-args-out : goal.bounds-args-out
bounds-args-out c =
    place-args c.requires c.in_ok-at.was

pub offset_bounds-vals-out : goal.offset_bounds-vals-out
offset_bounds-vals-out c =
    let h = place-vals c.requires c.in_ok-at.was in omega arith

pub bounds-vals-out : goal.bounds-vals-out
bounds-vals-out c =
    place-vals c.requires c.in_ok-at.was

pub overflow_add-result : goal.overflow_add-result
overflow_add-result c =
    let h = place-ops c.requires c.in_ok-at.was in omega arith

pub returns : goal.returns
returns c =
    record { answer = more-on c.in_ok-at.was; code = stored_on _ _ _ _ _ _ c.in_ok-at.was }
