use Rattle.orchestra_rate_rules.proofs.Rated.{entered-a, entered-k, entered-i}
use borrow.Author.Rules.{rules}
use Rattle.orchestra_rate_rules.proofs.entered.Goals as goal

pub returns-then-m-ge-A_RATE : goal.returns-then-m-ge-A_RATE
returns-then-m-ge-A_RATE c =
    search entered-a

pub returns-then-m-ge-K_RATE : goal.returns-then-m-ge-K_RATE
returns-then-m-ge-K_RATE c =
    search entered-k

pub returns : goal.returns
returns c =
    search entered-i
