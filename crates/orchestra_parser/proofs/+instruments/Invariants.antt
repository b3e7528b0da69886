-- The measure of a reader that calls itself: the tokens left.
use Rattle.orchestra_expressions.specs.Areas.{left}
use Rattle.orchestra_parser.proofs.+instruments.Given as goal

abbrev pub decreases-instruments : goal.decreases-instruments
decreases-instruments l = left l.tokens.now l.got
