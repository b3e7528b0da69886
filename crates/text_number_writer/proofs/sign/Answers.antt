use mathlib.Core.Path.{sym, subst, ap, ◌∙◌}
use lib.Dec.{T, leb}
use Rattle.text_number_writer.proofs.Candidates.{sign_bit}
use Rattle.text_number_writer.proofs.sign.Goals as goal

pub returns : goal.returns
returns c =
    ap (leb 0x8000_0000) c.float_bits.ensures ∙ sign_bit c.args.x (subst T (sym c.well_formed.0.1) tt)
