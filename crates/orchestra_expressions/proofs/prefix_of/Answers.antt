use Rattle.orchestra_expressions.proofs.Tables.{sign-starts}
use Rattle.std.proofs.Common.{rules}
use Rattle.orchestra_expressions.proofs.Moves.{whole-head}
use Rattle.orchestra_expressions.proofs.prefix_of.Goals as goal

pub returns-in-Number : goal.returns-in-Number
returns-in-Number c =
    rw c.in-Number.is

pub returns-in-Symbol : goal.returns-in-Symbol
returns-in-Symbol c =
    rw c.in-Symbol.is

pub returns-in-Whole : goal.returns-in-Whole
returns-in-Whole c =
    search whole-head

pub returns-in-9 : goal.returns-in-9
returns-in-9 c =
    search (sign-starts 9)

pub returns-in-10 : goal.returns-in-10
returns-in-10 c =
    search (sign-starts 10)

pub returns-in-11 : goal.returns-in-11
returns-in-11 c =
    search (sign-starts 11)

pub returns-in-12 : goal.returns-in-12
returns-in-12 c =
    search (sign-starts 12)

pub returns-in-13 : goal.returns-in-13
returns-in-13 c =
    search (sign-starts 13)

pub returns-in-14 : goal.returns-in-14
returns-in-14 c =
    search (sign-starts 14)

pub returns-in-33 : goal.returns-in-33
returns-in-33 c =
    search (sign-starts 33)

pub returns-in-36 : goal.returns-in-36
returns-in-36 c =
    search (sign-starts 36)
