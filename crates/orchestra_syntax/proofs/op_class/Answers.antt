use borrow.Author.Tests.{le-leb, lt-leb, eq-eqb, ne_eqb}
use Rattle.orchestra_syntax.proofs.op_class.Goals as goal

pub returns-then-op-eq-NAME : goal.returns-then-op-eq-NAME
returns-then-op-eq-NAME c =
    search (le-leb, lt-leb, eq-eqb, ne_eqb)

pub returns-then-op-eq-ASSIGN : goal.returns-then-op-eq-ASSIGN
returns-then-op-eq-ASSIGN c =
    search (le-leb, lt-leb, eq-eqb, ne_eqb)

pub returns-then-op-eq-OUTPUT : goal.returns-then-op-eq-OUTPUT
returns-then-op-eq-OUTPUT c =
    search (le-leb, lt-leb, eq-eqb, ne_eqb)

pub returns-then-op-eq-IF : goal.returns-then-op-eq-IF
returns-then-op-eq-IF c =
    search (le-leb, lt-leb, eq-eqb, ne_eqb)

pub returns-then-op-eq-ELSE : goal.returns-then-op-eq-ELSE
returns-then-op-eq-ELSE c =
    search (le-leb, lt-leb, eq-eqb, ne_eqb)

pub returns-then-op-eq-CURLY_CLOSE : goal.returns-then-op-eq-CURLY_CLOSE
returns-then-op-eq-CURLY_CLOSE c =
    search (le-leb, lt-leb, eq-eqb, ne_eqb)

pub returns-then-op-eq-INSTR : goal.returns-then-op-eq-INSTR
returns-then-op-eq-INSTR c =
    search (le-leb, lt-leb, eq-eqb, ne_eqb)

pub returns-then-op-le-IMPORTS : goal.returns-then-op-le-IMPORTS
returns-then-op-le-IMPORTS c =
    search (le-leb, lt-leb, eq-eqb, ne_eqb)

pub returns : goal.returns
returns c =
    search (le-leb, lt-leb, eq-eqb, ne_eqb)
