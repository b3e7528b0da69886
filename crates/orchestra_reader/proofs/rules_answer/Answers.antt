use Rattle.orchestra_reader.proofs.Judging.{misnamed, misrated, both-kept}
use borrow.Author.Rules.{rules}
use Rattle.orchestra_reader.proofs.rules_answer.Goals as goal

pub returns-then-obeys_rate_rules : goal.returns-then-obeys_rate_rules
returns-then-obeys_rate_rules c =
    let p = both-kept _ _ c.obeys_name_rules.ensures c.if-obeys_name_rules.true c.place_names.ensures c.obeys_rate_rules.ensures c.if-obeys_rate_rules.true in
    record { answer = p.0; names = p.1 }

pub returns-else-obeys_rate_rules : goal.returns-else-obeys_rate_rules
returns-else-obeys_rate_rules c =
    let p = misrated _ _ c.obeys_name_rules.ensures c.if-obeys_name_rules.true c.place_names.ensures c.obeys_rate_rules.ensures c.if-obeys_rate_rules.false in
    record { answer = p.0; names = p.1 }

pub returns-else-obeys_name_rules : goal.returns-else-obeys_name_rules
returns-else-obeys_name_rules c =
    let p = misnamed _ _ c.obeys_name_rules.ensures c.if-obeys_name_rules.false in
    record { answer = p.0; names = p.1 }
