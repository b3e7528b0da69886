use borrow.Author.Rules.{rules}
use Rattle.orchestra_name_rules.proofs.Entering.{l-name, l-store, l-declare, l-instr, l-other}
use Rattle.orchestra_name_rules.proofs.is_valid.Goals as goal

pub returns-in-Name : goal.returns-in-Name
returns-in-Name c =
    search l-name

pub returns-in-Store : goal.returns-in-Store
returns-in-Store c =
    search l-store

pub returns-in-Declare : goal.returns-in-Declare
returns-in-Declare c =
    search l-declare

pub returns-in-Instr : goal.returns-in-Instr
returns-in-Instr c =
    search l-instr

pub returns-in_default : goal.returns-in_default
returns-in_default c =
    search l-other
