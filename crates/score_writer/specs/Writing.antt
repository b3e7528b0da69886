-- Whole scores and access units, written: document 01, "Score lines, bit by bit". Definitions only.
use Rattle.std.specs.Prelude.{ℕ, Bool, List, [], ◌∷◌, ◌++◌, length}
use Rattle.base_bitstream.specs.Bits.{field}
use Rattle.base_bitstream.specs.Filling.{filled_up, bytes_of}
use Rattle.score_line.specs.declared.Line.{Line}
use Rattle.score_line_writer.specs.Writing.{line_bits}

-- lines without gap
unfoldable pub lines_bits : List Line → List Bool
lines_bits [] = []
lines_bits (l ∷ ls) = line_bits l ++ lines_bits ls

-- the number of lines in 20 bits, the lines, and zero bits to a whole byte
unfoldable pub score_bits : List Line → List Bool
score_bits ls = filled_up (field 20 (length ls) ++ lines_bits ls)

unfoldable pub score_bytes : List Line → List ℕ
score_bytes ls = bytes_of (score_bits ls)

-- two bits 00, one line, and zero bits to a whole byte
unfoldable pub unit_bits : Line → List Bool
unit_bits l = filled_up (field 2 0 ++ line_bits l)

unfoldable pub unit_bytes : Line → List ℕ
unit_bytes l = bytes_of (unit_bits l)

-- the most lines that 20 bits can count
abbrev pub most_lines : ℕ
most_lines = 1048575
