-- The measure of the readers that call each other: the tokens left.
use Rattle.orchestra_expressions.specs.Areas.{left}
use Rattle.orchestra_statement_parser.proofs.+branches_otherwise_statements.Given as goal

abbrev pub decreases-branches : goal.decreases-branches
decreases-branches l = left l.tokens.now l.got

abbrev pub decreases-otherwise : goal.decreases-otherwise
decreases-otherwise l = left l.tokens.now l.got

abbrev pub decreases-statements : goal.decreases-statements
decreases-statements l = left l.tokens.now l.got
