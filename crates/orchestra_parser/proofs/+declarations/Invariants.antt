-- The measure of a reader that calls itself: the tokens left.
use Rattle.orchestra_expressions.specs.Areas.{left}
use Rattle.orchestra_parser.proofs.+declarations.Given as goal

abbrev pub decreases-declarations : goal.decreases-declarations
decreases-declarations l = left l.tokens.now l.got
