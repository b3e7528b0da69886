use borrow.Author.Rules.{rules}
use Rattle.text_number_reader.proofs.Readers.{digits-below, decimals-bad, decimals-are, decimals-no}
use Rattle.text_number_reader.proofs.decimals_at.Goals as goal

pub returns-in_err-all : goal.returns-in_err-all
returns-in_err-all c =
    search (decimals-no, c.in_err-all.was)

pub returns-then-count-eq0 : goal.returns-then-count-eq0
returns-then-count-eq0 c =
    search (decimals-bad, c.in_ok-all.was, c.then-count-eq0.either)

pub value-requires : goal.value-requires
value-requires c =
    search (digits-below, rules, c.in_ok-all.was)

pub returns : goal.returns
returns c =
    search (decimals-are, c.in_ok-all.was)
