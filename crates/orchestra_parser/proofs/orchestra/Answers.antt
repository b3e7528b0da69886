use mathlib.Core.Path.{refl}
use borrow.Author.Rules.{rules}
use Rattle.orchestra_parser.proofs.WholeReading.{starts, reads}
use Rattle.orchestra_parser.proofs.orchestra.Goals as goal

pub instruments-requires : goal.instruments-requires
instruments-requires c =
    starts c.args.tokens.now refl c.requires

pub returns : goal.returns
returns c =
    reads c.instruments.ensures
