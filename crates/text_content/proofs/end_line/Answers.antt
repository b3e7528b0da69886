use borrow.Author.Rules.{rules}
use Rattle.text_content.proofs.Words.{end-judged}
use Rattle.text_content.proofs.end_line.Goals as goal

pub returns : goal.returns
returns c =
    search end-judged
