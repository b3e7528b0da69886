use borrow.Author.Rules.{rules}
use mathlib.Core.Path.{◌≡◌}
use lib.ListN.{length}
use Rattle.text_content.proofs.Words.{labelled-judged}
use Rattle.text_content.proofs.labelled_instr.Goals as goal

pub returns : goal.returns
returns c =
    let long : length c.args.k.bits ≡ 8 = c.well_formed.1.1.1.1.1.0.1.1.1.0.1.0.1 in
    search labelled-judged
