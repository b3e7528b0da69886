-- The measure of a reader that calls itself: the tokens left.
use Rattle.orchestra_expressions.specs.Areas.{left}
use Rattle.orchestra_parser.proofs.+names.Given as goal

abbrev pub decreases-names : goal.decreases-names
decreases-names l = left l.tokens.now l.got
