use mathlib.Core.Path.{refl}
use Rattle.base_formats.specs.Format.{field_words}
use Rattle.base_formats.specs.inside.Lengths.{field_widths}
use Rattle.score_line_writer.specs.inside.Packed.{packed}
use Rattle.score_line_writer.specs.Writing.{to_slot}
use Rattle.score_line_writer.proofs.no_fields.Goals as goal

pub returns : goal.returns
unfolding packed to_slot field_widths field_words
returns c =
    refl
