-- Reading and writing undo each other: lines, scores and access units, through the public calls, with what they answer and leave for whatever is lent to
-- them; and what the writer answers for lines of every kind. Read this file first. Statements only; the proofs are in proofs/calls.antt.
use Rattle.std.specs.Prelude.{ℕ, suc, ◌+◌, ◌-◌, ◌*◌, ◌^◌, ◌<◌, ◌≤◌, ◌≡◌, Bool, true, ◌&&◌, cond, List, [], ◌∷◌, ◌++◌, T, leb, length, get_or, take, drop, replicate}
use Rattle.base_answer.specs.Numbers.{number_of, is_taken}
use Rattle.base_answer.specs.declared.Answer.TheVariants.{Taken, OutOfRange}
use Rattle.base_bitstream.specs.Bits.{bits_of}
use Rattle.base_bitstream.specs.Fields.{farthest}
use Rattle.score_line.specs.LineFormat.{slot_words, valid}
use Rattle.score_line.specs.Reading.{line_at, keypad_line}
use Rattle.score_line.specs.declared.Line.{Line}
use Rattle.score_line.specs.declared.LineRead.{LineRead}
use Rattle.score_line_writer.specs.Writing.{line_bits, line_words, line_fault, line_slot, bits_fit, LineWritten}
use Rattle.score_line_writer.specs.Stored.{stored, normalized}
use Rattle.score_reader.specs.Score.{score_of, unit_of}
use Rattle.score_reader.specs.declared.ScoreRead.{ScoreRead}
use Rattle.score_decoder.specs.Area.{area_words, carried, DecodesTo}
use Rattle.score_decoder.specs.declared.Decoded.{Decoded}
use Rattle.score_writer.specs.Writing.{score_bytes, most_lines}
use Rattle.score_writer.specs.Slots.{all_zero, slot_line}
use Rattle.score_writer.specs.Written.{refusal, told, left, ScoreDone, UnitDone, SlotDone}
use Rattle.score_writer.specs.declared.WriteResult.{WriteResult}

-- what a lent slice holds
abbrev pub Bytes : List ℕ → Type 0
Bytes s = (i : ℕ) → get_or s i 0 < 2 ^ 8

abbrev pub Words : List ℕ → Type 0
Words ws = (i : ℕ) → get_or ws i 0 < 2 ^ 32

-- ---- lines: `score_line_reader::line_at` and `score_line_writer::write_line`, `score_line_reader::keypad_line` and `score_line_writer::line_slot`

-- the line and the position past it, with the number 0
pub record Took (r : LineRead) (l : Line) (p : ℕ) : Type 0 where
  pub number : number_of r.answer ≡ 0
  pub line : r.line ≡ l
  pub next : r.next ≡ p

-- a valid line, written where it has room, is read there
abbrev pub LineReadBack : Type 0
LineReadBack =
    (old new : List ℕ) (at p : ℕ) (l : Line) → T (valid l) → LineWritten (bits_of old) at l (bits_of new) p → T (bits_fit (length (bits_of old)) at (length (line_bits l)))
    → Took (line_at (bits_of new) at) l p

-- a line that was read, written where it stood, changes nothing
abbrev pub LineWrittenBack : Type 0
LineWrittenBack =
    (s t : List ℕ) (at p : ℕ) → Bytes s → Bytes t → number_of (line_at (bits_of s) at).answer ≡ 0 → (line_at (bits_of s) at).next ≤ farthest
    → LineWritten (bits_of s) at (line_at (bits_of s) at).line (bits_of t) p → (t ≡ s) × (p ≡ (line_at (bits_of s) at).next)

-- the keypad takes a valid line's numbers as that line
abbrev pub KeypadReadBack : Type 0
KeypadReadBack = (l : Line) → T (valid l) → Took (keypad_line (line_words l)) l (length (line_words l))

-- numbers that the keypad took, then zeros, are the slot of the line
abbrev pub KeypadWrittenBack : Type 0
KeypadWrittenBack = (ws : List ℕ) → Words ws → number_of (keypad_line ws).answer ≡ 0 → line_slot (keypad_line ws).line ≡ ws ++ replicate (slot_words - length ws) 0

-- ---- scores: `score_decoder::decode_score` and `score_writer::write_score`

-- n slots that were written, decoded into any area that has room for them, are its first words; the others are as they were
pub record SlotsBack (area : List ℕ) (n : ℕ) (into new : List ℕ) (d : Decoded) : Type 0 where
  pub number : number_of d.answer ≡ 0
  pub line : d.line ≡ 0
  pub count : d.count ≡ n
  pub words : new ≡ take (slot_words * n) area ++ drop (slot_words * n) into

abbrev pub ScoreReadBack : Type 0
ScoreReadBack =
    (area out bytes into new : List ℕ) (n : ℕ) (w : WriteResult) (d : Decoded) → Words area
    → ScoreDone area n out bytes w → number_of w.answer ≡ 0
    → DecodesTo (score_of (bits_of (take w.bytes bytes))) into new d → slot_words * n ≤ length into → SlotsBack area n into new d

-- bytes that were decoded, written into any bytes that have room for them, are the first; the others are as they were
pub record BytesBack (s out new : List ℕ) (w : WriteResult) : Type 0 where
  pub number : number_of w.answer ≡ 0
  pub line : w.line ≡ 0
  pub bytes : w.bytes ≡ length s
  pub are : new ≡ s ++ drop (length s) out

abbrev pub ScoreWrittenBack : Type 0
ScoreWrittenBack =
    (s area words out new : List ℕ) (d : Decoded) (w : WriteResult) → Bytes s
    → DecodesTo (score_of (bits_of s)) area words d → number_of d.answer ≡ 0
    → ScoreDone words d.count out new w → length s ≤ length out → BytesBack s out new w

-- ---- access units: `score_reader::read_unit` and `score_writer::write_unit`, `score_decoder::decode_unit` and `score_writer::write_slot`

-- any line that was written is read as it is meant; a valid one as it is
abbrev pub UnitReadBack : Type 0
UnitReadBack =
    (l : Line) (out bytes : List ℕ) (w : WriteResult) → T (stored l) → UnitDone l out bytes w → number_of w.answer ≡ 0
    → Took (unit_of (bits_of (take w.bytes bytes))) (normalized l) (2 + length (line_bits l))

abbrev pub UnitWrittenBack : Type 0
UnitWrittenBack =
    (s out new : List ℕ) (w : WriteResult) → Bytes s → number_of (unit_of (bits_of s)).answer ≡ 0
    → UnitDone (unit_of (bits_of s)).line out new w → length s ≤ length out → BytesBack s out new w

abbrev pub SlotReadBack : Type 0
SlotReadBack =
    (area out bytes into new : List ℕ) (w : WriteResult) (d : Decoded) → Words area
    → SlotDone area out bytes w → number_of w.answer ≡ 0
    → DecodesTo (carried (unit_of (bits_of (take w.bytes bytes)))) into new d → slot_words ≤ length into → SlotsBack area 1 into new d

abbrev pub SlotWrittenBack : Type 0
SlotWrittenBack =
    (s area words out new : List ℕ) (d : Decoded) (w : WriteResult) → Bytes s
    → DecodesTo (carried (unit_of (bits_of s))) area words d → number_of d.answer ≡ 0
    → SlotDone words out new w → length s ≤ length out → BytesBack s out new w

-- ---- a slot is read exactly as the keypad reads its numbers, then zeros

-- numbers that the keypad takes, then any number of zeros, are that line; what a slot is taken for are such numbers; else the answer is the keypad's to all its words
pub record AsKeypad (slot : List ℕ) : Type 0 where
  pub taken : number_of (slot_line slot).answer ≡ 0 → (keypad_line (take (slot_line slot).next slot) ≡ slot_line slot) × (all_zero (drop (slot_line slot).next slot) ≡ true)
  pub refused : (number_of (slot_line slot).answer ≡ 0 → ⊥) → slot_line slot ≡ keypad_line slot

abbrev pub SlotsAsKeypad : Type 0
SlotsAsKeypad = (slot : List ℕ) → Words slot → AsKeypad slot

abbrev pub KeypadAsSlot : Type 0
KeypadAsSlot = (ws : List ℕ) (n : ℕ) → Words ws → number_of (keypad_line ws).answer ≡ 0 → slot_line (ws ++ replicate n 0) ≡ keypad_line ws

-- ---- the writer's answers for slots that are lines, valid or not

abbrev pub all_stored : List Line → Bool
all_stored [] = true
all_stored (l ∷ ls) = stored l && all_stored ls

-- the first line that reading would refuse, with its number
unfoldable pub lines_fault : List Line → ℕ → ScoreRead
lines_fault [] i = record { answer = Taken; line = 0 }
lines_fault (l ∷ ls) i = cond (is_taken (line_fault l)) (lines_fault ls (suc i)) (record { answer = line_fault l; line = i })

-- document 01: 3 or 5 for the first line that reading would refuse so, 3 for more than 1,048,575 lines, then 8
unfoldable pub lines_written : List Line → ℕ → WriteResult
lines_written ls room =
    cond (is_taken (lines_fault ls 0).answer)
    (cond (leb (length ls) most_lines) (told (score_bytes ls) room) (refusal OutOfRange 0))
    (refusal (lines_fault ls 0).answer (lines_fault ls 0).line)

-- bytes past what was written stay, and all of them on refusal
unfoldable pub lines_left : List Line → List ℕ → List ℕ
lines_left ls out = cond (is_taken (lines_fault ls 0).answer) (cond (leb (length ls) most_lines) (left (score_bytes ls) out) out) out

pub data WriterNumber : ℕ → Type 0 where
  written : WriterNumber 0
  out_of_range : WriterNumber 3
  too-many-values : WriterNumber 5
  too_short : WriterNumber 8

-- whatever lies behind the lines' slots
pub record AsLines (ls : List Line) (out new : List ℕ) (w : WriteResult) : Type 0 where
  pub answers : w ≡ lines_written ls (length out)
  pub leaves : new ≡ lines_left ls out
  pub number : WriterNumber (number_of w.answer)

abbrev pub LinesWritten : Type 0
LinesWritten = (ls : List Line) (rest out new : List ℕ) (w : WriteResult) → T (all_stored ls) → ScoreDone (area_words ls ++ rest) (length ls) out new w → AsLines ls out new w
