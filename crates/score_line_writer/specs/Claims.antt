-- Lines are read and written so that each undoes the other, and what reading meets in any line. Statements only; the proofs are in
-- proofs/proved.antt and proofs/any_line.antt.
use Rattle.std.specs.Prelude.{ℕ, ◌+◌, ◌^◌, ◌<◌, ◌≤◌, ◌≡◌, Bool, cond, List, ◌++◌, T, length, get_or, take, drop}
use Rattle.base_answer.specs.Numbers.{number_of, is_taken}
use Rattle.base_answer.specs.declared.Answer.TheVariants as answer
use Rattle.base_bitstream.specs.Fields.{farthest}
use Rattle.score_line.specs.LineFormat.{valid}
use Rattle.score_line.specs.Reading.{line_at, line_in_words, keypad_line, refused_line}
use Rattle.score_line.specs.declared.Line.{Line}
use Rattle.score_line.specs.declared.LineRead.{LineRead}
use Rattle.score_line_writer.specs.Writing.{line_before, line_bits, line_words, line_fault}
use Rattle.score_line_writer.specs.Stored.{stored, normalized}

-- a line that was taken, and the position past it
abbrev pub taken : Line → ℕ → LineRead
taken l p = record { answer = answer.Taken; line = l; next = p }

-- a valid line's bits, anywhere among bits, are read as that line
abbrev pub BitsReadBack : Type 0
BitsReadBack =
    (l : Line) (before after : List Bool) → T (valid l) → length before + length (line_bits l) ≤ farthest
    → line_at (before ++ (line_bits l ++ after)) (length before) ≡ taken l (length before + length (line_bits l))

-- a valid line's keypad numbers are read as that line
abbrev pub WordsReadBack : Type 0
WordsReadBack = (l : Line) → T (valid l) → keypad_line (line_words l) ≡ taken l (length (line_words l))

-- a line taken from bits is valid, and the bits that it was read from are those that it is written as
pub record LineOfBits (bits : List Bool) (at : ℕ) (l : Line) (p : ℕ) : Type 0 where
  pub is-valid : T (valid l)
  pub within : p ≤ length bits
  pub past : p ≡ at + length (line_bits l)
  pub bits_are : bits ≡ take at bits ++ (line_bits l ++ drop p bits)

abbrev pub BitsWrittenBack : Type 0
BitsWrittenBack = (bits : List Bool) (at : ℕ) (l : Line) (p : ℕ) → line_at bits at ≡ taken l p → LineOfBits bits at l p

-- a line taken from keypad numbers is valid, and they are the numbers that it is written as
abbrev pub WordsWrittenBack : Type 0
WordsWrittenBack =
    (words : List ℕ) (l : Line) (p : ℕ) → ((i : ℕ) → get_or words i 0 < 2 ^ 32) → keypad_line words ≡ taken l p → T (valid l) × (line_words l ≡ words)

-- no valid line's bits begin another's: line and rest are told apart
abbrev pub BitsInjective : Type 0
BitsInjective = (a b : Line) (r t : List Bool) → T (valid a) → T (valid b) → line_before a r ≡ line_before b t → (a ≡ b) × (r ≡ t)

-- ---- any line that the code can hold, valid or not

-- what reading a line's own fields gives: the line as it is meant, or its fault
abbrev pub as_read : Line → ℕ → LineRead
as_read l p = cond (is_taken (line_fault l)) (taken (normalized l) p) (refused_line (line_fault l))

-- wherever a line's fields stand, reading meets the same: among bits, or as keypad numbers, with others behind them or alone
pub record AnyRead (l : Line) : Type 0 where
  pub in-bits : (before after : List Bool) → length before + length (line_bits l) ≤ farthest
      → line_at (before ++ (line_bits l ++ after)) (length before) ≡ as_read l (length before + length (line_bits l))
  pub in_words : (after : List ℕ) → line_in_words (line_words l ++ after) 0 ≡ as_read l (length (line_words l))
  pub alone : keypad_line (line_words l) ≡ as_read l (length (line_words l))

abbrev pub EveryLineRead : Type 0
EveryLineRead = (l : Line) → T (stored l) → AnyRead l

-- a line without fault is valid as it is meant, and written the same
pub record Normalized (l : Line) : Type 0 where
  pub is-valid : T (valid (normalized l))
  pub same_bits : line_bits (normalized l) ≡ line_bits l
  pub same-words : line_words (normalized l) ≡ line_words l

abbrev pub EveryNormalized : Type 0
EveryNormalized = (l : Line) → T (stored l) → number_of (line_fault l) ≡ 0 → Normalized l

-- the faults of a line: none, a number outside its range, or more than 8 values
pub data FaultNumber : ℕ → Type 0 where
  no-fault : FaultNumber 0
  out_of_range : FaultNumber 3
  too-many-values : FaultNumber 5

abbrev pub FaultNumbers : Type 0
FaultNumbers = (l : Line) → T (stored l) → FaultNumber (number_of (line_fault l))
