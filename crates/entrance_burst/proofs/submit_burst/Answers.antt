use mathlib.Core.Path.{sym, ◌∙◌}
use borrow.Author.Rules.{rules}
use borrow.Author.Tests.{not-true, not-false}
use Rattle.score_bursts.proofs.Walk.{told-units}
use Rattle.entrance_burst.proofs.Sending.{burst-taken, sent-fault, area-fault, sent-short, area-short, sent-whole, area-whole}
use Rattle.entrance_burst.proofs.submit_burst.Goals as goal

pub returns-then-not-is_taken : goal.returns-then-not-is_taken
returns-then-not-is_taken c =
    let e = c.scan-cut.ensures in
    let t = sym c.is_taken.ensures ∙ c.if-not-is_taken.true in
    record { sent = sent-fault _ _ _ _ _ e _ t; area = area-fault _ _ _ _ _ e _ t }

pub returns-then-answers-cut : goal.returns-then-answers-cut
returns-then-answers-cut c =
    let e = c.scan-cut.ensures in
    let t = sym c.is_taken.ensures ∙ c.if-not-is_taken.false in
    record { sent = sent-short _ _ _ _ _ e t _ c.if-answers-cut.true; area = area-short _ _ _ _ _ e t _ c.if-answers-cut.true }

pub submit_units-left-requires : goal.submit_units-left-requires
submit_units-left-requires c =
    let e = c.scan-cut.ensures in
    let t = sym c.is_taken.ensures ∙ c.if-not-is_taken.false in
    record { s_value = burst-taken _ _ e t; m_value = told-units _ _ e t; m_in_bounds = c.if-answers-cut.false }

pub returns : goal.returns
returns c =
    let e = c.scan-cut.ensures in
    let t = sym c.is_taken.ensures ∙ c.if-not-is_taken.false in
    record { sent = sent-whole _ _ _ _ _ e t _ c.if-answers-cut.false _ c.submit_units-left.ensures.queue; area = area-whole _ _ _ _ _ e t _ c.if-answers-cut.false _ c.submit_units-left.ensures.area }
