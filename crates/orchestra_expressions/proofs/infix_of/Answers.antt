use Rattle.orchestra_expressions.proofs.Tables.{sign-goes-on}
use Rattle.std.proofs.Common.{rules}
use Rattle.orchestra_expressions.proofs.infix_of.Goals as goal

pub returns-in-24 : goal.returns-in-24
returns-in-24 c =
    search (sign-goes-on 24)

pub returns-in-25 : goal.returns-in-25
returns-in-25 c =
    search (sign-goes-on 25)

pub returns-in-26 : goal.returns-in-26
returns-in-26 c =
    search (sign-goes-on 26)

pub returns-in-27 : goal.returns-in-27
returns-in-27 c =
    search (sign-goes-on 27)

pub returns-in-28 : goal.returns-in-28
returns-in-28 c =
    search (sign-goes-on 28)

pub returns-in-29 : goal.returns-in-29
returns-in-29 c =
    search (sign-goes-on 29)

pub returns-in-30 : goal.returns-in-30
returns-in-30 c =
    search (sign-goes-on 30)

pub returns-in-31 : goal.returns-in-31
returns-in-31 c =
    search (sign-goes-on 31)

pub returns-in-32 : goal.returns-in-32
returns-in-32 c =
    search (sign-goes-on 32)

pub returns-in-33 : goal.returns-in-33
returns-in-33 c =
    search (sign-goes-on 33)

pub returns-in-34 : goal.returns-in-34
returns-in-34 c =
    search (sign-goes-on 34)

pub returns-in-35 : goal.returns-in-35
returns-in-35 c =
    search (sign-goes-on 35)
