-- The round trips of whole scores and units, and document 01's worked score. Assumes nothing.
use Prim.Native.Nat.{ℕ, ◌+◌, ◌%◌}
use mathlib.Core.Path.{◌≡◌, refl, sym, ap, ◌∙◌}
use mathlib.Core.Bool.{Bool}
use mathlib.Core.List.{List}
use native.Mathlib.Omega.{arith}
use lib.Dec.{T}
use lib.Ieee.{of_bits, to_bits}
use lib.ListN.{length}
use Rattle.base_answer.specs.declared.Answer.TheVariants.{Taken}
use Rattle.base_bitstream.specs.Bits.{bits_of, bit, field, value_of}
use Rattle.base_bitstream.specs.Filling.{filled_up, bytes_from, bytes_of}
use Rattle.base_bitstream.proofs.BitValues.{length-bits_of}
use Rattle.base_bitstream.proofs.Filling.{bits_of-bytes_of, bytes_of-bits_of}
use Rattle.base_formats.specs.Format.{got, field_bits, small}
use Rattle.score_line.specs.LineFormat.{timed, when, kind, body, values, float, padded, after_time, parts, line, valid}
use Rattle.score_line.specs.Reading.{line_read, line_of}
use Rattle.score_line.specs.declared.Line.{Line}
use Rattle.score_line_writer.specs.Writing.{line_before, line_bits}
use Rattle.score_reader.specs.Score.{Score, score_of, unit_of}
use Rattle.score_reader.proofs.Walk.{answered}
use Rattle.score_writer.specs.Writing.{lines_bits, score_bits, score_bytes, unit_bits, unit_bytes}
use Rattle.score_writer.specs.Bytes.{ScoreBytesRead, ScoreBytesWritten, ScoreBytesInjective, UnitBytesRead, UnitBytesWritten, UnitBytesInjective, Example}
use Rattle.score_writer.proofs.BitsAndBack.{whole-bytes, score-here, score-back, unit-here, unit-back}

pub score-bytes-read : ScoreBytesRead
unfolding score_bytes score_bits
score-bytes-read ls w h = ap score_of (bits_of-bytes_of (score_bits ls) (whole-bytes 20 (length ls) (lines_bits ls))) ∙ score-here ls w h

whole : (s : List ℕ) → length (bits_of s) % 8 ≡ 0
whole s = omega (arith, length-bits_of s)

pub score-bytes-written : ScoreBytesWritten
unfolding score_bytes
score-bytes-written s h e =
    let ls = (score_of (bits_of s)).lines in
    let b = score-back (bits_of s) ls (whole s) (answered (bits_of s) e) in
    record { valid-lines = b.valid; count = b.count; bytes-are = ap bytes_of (sym b.bits) ∙ bytes_of-bits_of s h }

pub score-bytes-injective : ScoreBytesInjective
score-bytes-injective ls ms a b c d e =
    ap (λ (x : Score). x.lines) (sym (score-bytes-read ls a c) ∙ ap (λ (x : List ℕ). score_of (bits_of x)) e ∙ score-bytes-read ms b d)

pub unit-whole : (l : Line) → T (valid l) → unit_of (bits_of (unit_bytes l)) ≡ line_read (got l (2 + length (line_bits l)))
unfolding unit_bytes unit_bits
unit-whole l w = ap unit_of (bits_of-bytes_of (unit_bits l) (whole-bytes 2 0 (line_bits l))) ∙ unit-here l w

pub unit-bytes-read : UnitBytesRead
unfolding line_read
unit-bytes-read l w =
    let e = unit-whole l w in
    record { answer = cc; line = cc }

-- a unit that was taken, as its line and the position past it
unit-answered : (bits : List Bool) → (unit_of bits).answer ≡ Taken → unit_of bits ≡ line_read (got (unit_of bits).line (unit_of bits).next)
unfolding line_read
unit-answered bits e = λ i. record { answer = e i; line = (unit_of bits).line; next = (unit_of bits).next }

pub unit-bytes-written : UnitBytesWritten
unfolding unit_bytes
unit-bytes-written s h e =
    let r = unit_of (bits_of s) in
    let b = unit-back (bits_of s) r.line r.next (whole s) (unit-answered (bits_of s) e) in
    (b.valid, ap bytes_of (sym b.bits) ∙ bytes_of-bits_of s h)

pub unit-bytes-injective : UnitBytesInjective
unit-bytes-injective l m a b e = cc ((unit-bytes-read l a).line, (unit-bytes-read m b).line)

-- 00 00 18 FE 00 00 01 00
pub example : Example
unfolding score_bytes score_bits lines_bits line_bits line_before line parts after_time when timed kind body values float small field_bits line_of padded filled_up bytes_from bytes_of bit field value_of to_bits of_bits
example = refl
