use Rattle.std.proofs.Common.{◌∙◌}
use Rattle.program_io.proofs.Samples.{bits_are, bits-read}
use Rattle.program_io.proofs.sample_bits.Goals as goal

pub returns : goal.returns
returns c = c.cast_unsigned.ensures ∙ bits_are _ ∙ bits-read c.ranges.v
