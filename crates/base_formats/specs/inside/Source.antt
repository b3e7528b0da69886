-- The source that the code reads. Definitions only.
use Rattle.base_bitstream.specs.Bits.{bits_of}
use Rattle.base_formats.specs.Format.{Source, bit_source, keypad_source}
use Rattle.base_formats.specs.declared.Source.{Source as Place}
use Rattle.base_formats.specs.declared.Source.TheVariants.{Bits, Keypad}

-- the code's choice between the two
abbrev pub source_of : Place → Source
source_of (Bits bytes) = bit_source (bits_of bytes.now)
source_of (Keypad words) = keypad_source words.now
