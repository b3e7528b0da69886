use borrow.Author.Rules.{rules}
use Rattle.text_content.proofs.Words.{first-long, first-all}
use Rattle.text_content.proofs.first_words.Goals as goal

pub slice_bounds-line_in_words-end : goal.slice_bounds-line_in_words-end
slice_bounds-line_in_words-end c =
    search first-long

pub returns : goal.returns
returns c =
    search first-all
