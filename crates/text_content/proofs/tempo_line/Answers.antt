use borrow.Author.Rules.{rules}
use Rattle.text_content.proofs.Words.{tempo-judged}
use Rattle.text_content.proofs.tempo_line.Goals as goal

pub returns : goal.returns
returns c =
    search tempo-judged
