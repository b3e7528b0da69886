use mathlib.Core.Path.{◌≡◌, ap, ◌∙◌}
use mathlib.Core.List.{List}
use Prim.Native.Nat.{ℕ}
use borrow.Author.Rules.{rules}
use borrow.Author.Tests.{not-true, not-false}
use Rattle.settings_records.specs.Changes.{none_in_use, change_of, area_changed}
use Rattle.settings_records.specs.declared.InUse.{InUse}
use Rattle.base_answer.specs.declared.Answered.{Answered}
use Rattle.player_start.proofs.OneStart.{bad-record, unaccepted, absent, started}
use Rattle.player_start.proofs.fresh_start.Goals as goal

-- a change with none in use
on_none : {k : InUse} {c : Answered InUse} (area first : List ℕ) → k ≡ none_in_use → c ≡ change_of k area first → c ≡ change_of none_in_use area first
on_none area first e q = q ∙ ap (λ (x : InUse). change_of x area first) e

both-none : {k : InUse} {c : Answered InUse} {left : List ℕ} (area first : List ℕ) → k ≡ none_in_use → (c ≡ change_of k area first) × (left ≡ area_changed k.count area first)
    → (c ≡ change_of none_in_use area first) × (left ≡ area_changed none_in_use.count area first)
both-none area first e q = (on_none area first e q.0, q.1 ∙ ap (λ (x : InUse). area_changed x.count area first) e)

pub returns-then-not-is_taken : goal.returns-then-not-is_taken
returns-then-not-is_taken c =
    let e =
    bad-record _ _ _ _ (on_none _ _ c.none_in_use.ensures c.judge-judged.ensures) c.is_taken.ensures
    c.if-not-is_taken.true c.empty_program.ensures c.refused.ensures
    in record { start = e.0; area = e.1 }

pub returns-then-not-is_taken-2 : goal.returns-then-not-is_taken-2
returns-then-not-is_taken-2 c =
    let e =
    unaccepted _ _ _ _ (on_none _ _ c.none_in_use.ensures c.judge-judged.ensures) c.is_taken.ensures c.if-not-is_taken.false
    c.load-read.ensures c.is_taken-2.ensures c.if-not-is_taken-2.true c.refused-then-not-is_taken-2.ensures
    in record { start = e.0; area = e.1 }

pub returns-then-not-has_chosen : goal.returns-then-not-has_chosen
returns-then-not-has_chosen c =
    let e =
    absent _ _ _ _ (on_none _ _ c.none_in_use.ensures c.judge-judged.ensures) c.is_taken.ensures c.if-not-is_taken.false
    c.load-read.ensures c.is_taken-2.ensures c.if-not-is_taken-2.false c.has_chosen.ensures c.if-not-has_chosen.true c.refused-then-not-has_chosen.ensures
    in record { start = e.0; area = e.1 }

pub returns : goal.returns
returns c =
    let e =
    started _ _ _ _ (on_none _ _ c.none_in_use.ensures c.judge-judged.ensures) c.is_taken.ensures c.if-not-is_taken.false
    c.load-read.ensures c.is_taken-2.ensures c.if-not-is_taken-2.false c.has_chosen.ensures c.if-not-has_chosen.false
    (both-none _ _ c.none_in_use-2.ensures (c.change-written.ensures.value, c.change-written.ensures.area_after)) c.begin.ensures
    in record { start = e.0; area = e.1 }
