use borrow.Author.Rules.{rules}
use Rattle.text_number_reader.proofs.Readers.{digits-below, unsigned-none, unsigned-point, unsigned-plain, unsigned-no}
use Rattle.text_number_reader.proofs.unsigned_at.Goals as goal

pub returns-in_err-whole : goal.returns-in_err-whole
returns-in_err-whole c =
    search (unsigned-no, c.in_err-whole.was)

pub returns-then-count-eq0 : goal.returns-then-count-eq0
returns-then-count-eq0 c =
    search (unsigned-none, c.in_ok-whole.was)

pub decimals_at-requires : goal.decimals_at-requires
decimals_at-requires c =
    search (digits-below, rules, c.in_ok-whole.was)

pub returns-then-starts_with : goal.returns-then-starts_with
returns-then-starts_with c =
    search (unsigned-point, c.in_ok-whole.was)

pub value-requires : goal.value-requires
value-requires c =
    search (digits-below, rules, c.in_ok-whole.was)

pub returns : goal.returns
returns c =
    search (unsigned-plain, c.in_ok-whole.was)
