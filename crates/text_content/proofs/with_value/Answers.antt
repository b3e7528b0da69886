use borrow.Author.Rules.{rules}
use Rattle.text_content.proofs.Keeping.{stored, counted}
use Rattle.text_content.proofs.with_value.Goals as goal

pub returns-then-n-lt-MOST_VALUES : goal.returns-then-n-lt-MOST_VALUES
returns-then-n-lt-MOST_VALUES c =
    search stored

pub returns : goal.returns
returns c =
    search counted
