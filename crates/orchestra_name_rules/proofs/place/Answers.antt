use borrow.Author.Rules.{rules}
use Rattle.orchestra_name_rules.proofs.Seeking.{place_found, place_none}
use Rattle.orchestra_name_rules.proofs.place.Goals as goal

pub returns-then-i-n : goal.returns-then-i-n
returns-then-i-n c =
    search place_found

pub returns : goal.returns
returns c =
    search place_none
