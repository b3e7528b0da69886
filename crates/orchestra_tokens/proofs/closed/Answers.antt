use Rattle.orchestra_tokens.proofs.Counting.{closed-late, closed-taken, closed-many, closed-large}
use borrow.Author.Rules.{rules}
use Rattle.orchestra_tokens.proofs.closed.Goals as goal

pub returns-then-left-ne1 : goal.returns-then-left-ne1
returns-then-left-ne1 c =
    search closed-late

pub returns-then-m-le-MOST_TOKENS : goal.returns-then-m-le-MOST_TOKENS
returns-then-m-le-MOST_TOKENS c =
    search closed-taken
