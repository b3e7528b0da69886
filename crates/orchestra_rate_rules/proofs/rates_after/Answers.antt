use Rattle.orchestra_rate_rules.proofs.Rated.{a-value, a-name, a-store, a-output, a-if, a-else, a-end, a-declare, a-instr}
use borrow.Author.Rules.{rules}
use Rattle.orchestra_rate_rules.proofs.rates_after.Goals as goal

pub returns-in-Value : goal.returns-in-Value
returns-in-Value c =
    search a-value

pub returns-in-Name : goal.returns-in-Name
returns-in-Name c =
    search a-name

pub returns-in-Store : goal.returns-in-Store
returns-in-Store c =
    search a-store

pub returns-in-Output : goal.returns-in-Output
returns-in-Output c =
    search a-output

pub returns-in-If : goal.returns-in-If
returns-in-If c =
    search a-if

pub returns-in-Else : goal.returns-in-Else
returns-in-Else c =
    search a-else

pub returns-in-End : goal.returns-in-End
returns-in-End c =
    search a-end

pub returns-in-Declare : goal.returns-in-Declare
returns-in-Declare c =
    search a-declare

pub returns-in-Instr : goal.returns-in-Instr
returns-in-Instr c =
    search a-instr
