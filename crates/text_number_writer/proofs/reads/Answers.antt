use mathlib.Core.Path.{ap, ◌∙◌}
use lib.Ieee.{Float, eq}
use mathlib.Core.Bool.{Bool}
use Rattle.text_numerals.specs.Numeral.{float_of}
use Rattle.text_number_writer.proofs.reads.Goals as goal

pub returns : goal.returns
returns c =
    ap (λ (y : Float). eq y c.args.x) (c.value.ensures ∙ ap (λ (b : Bool). float_of b c.args.n c.args.d) c.sign.ensures)
