use Rattle.orchestra_reader.proofs.Ending.{parsed-fits, parsed-is, parsed-not}
use borrow.Author.Rules.{rules}
use Rattle.orchestra_reader.proofs.parsed.Goals as goal

pub finished-requires : goal.finished-requires
finished-requires c =
    parsed-fits c.orchestra.ensures c.in-Some.is c.requires

pub returns-in-Some : goal.returns-in-Some
returns-in-Some c =
    parsed-is c.orchestra.ensures c.in-Some.is c.requires c.finished.ensures

pub returns-in-None : goal.returns-in-None
returns-in-None c =
    parsed-not c.orchestra.ensures c.in-None.is c.refused.ensures
