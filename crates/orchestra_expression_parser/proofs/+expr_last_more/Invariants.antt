-- The measure of the readers that call each other: the tokens left.
use Rattle.orchestra_expressions.specs.Areas.{left}
use Rattle.orchestra_expression_parser.proofs.+expr_last_more.Given as goal

abbrev pub decreases-expr : goal.decreases-expr
decreases-expr l = left l.tokens.now l.got

abbrev pub decreases-last : goal.decreases-last
decreases-last l = left l.tokens.now l.got

abbrev pub decreases-more : goal.decreases-more
decreases-more l = left l.tokens.now l.got
