-- Document 01's refusal numbers, one for each answer.
use Rattle.std.specs.Prelude.{ℕ, Bool, eqb}
use Rattle.base_answer.specs.declared.Answer.{Answer}
use Rattle.base_answer.specs.declared.Answer.TheVariants.{Taken, CutShort, NotCarried, OutOfRange, NoInstrument, TooManyValues, NoTime, Late, NoRoom, Ended, BlockLength, LeftOver, BadToken, BadGrammar, BadNames, BadRates, TooLarge, UnknownVersion, BadText, NoText, NothingToUndo}

-- the number of an answer, as the table gives it
abbrev pub number_of : Answer → ℕ
number_of Taken = 0
-- the bytes or keypad numbers end before a field is whole
number_of CutShort = 1
-- a kind of line or access unit that is not carried
number_of NotCarried = 2
-- a number outside its range
number_of OutOfRange = 3
-- no such instrument, or more values than it has fields
number_of NoInstrument = 4
-- more than 8 values in an instr line; (M-103) a byte behind a burst's 32nd unit
number_of TooManyValues = 5
-- a stick line without a time
number_of NoTime = 6
-- late, and use-if-late not set
number_of Late = 7
-- 64 lines, or (M-104) note messages, already wait, or a lent area is too short; (M-107) a settings area that is not 4,096 bytes long, or full
number_of NoRoom = 8
-- the piece has ended
number_of Ended = 9
-- a block that is not 320 samples long
number_of BlockLength = 10
-- filling bits not zero, or whole bytes or keypad numbers left over; (M-107) a settings record of no or a wrong length
number_of LeftOver = 11
-- a token not listed, cut short, after the end token, or no end token
number_of BadToken = 12
-- tokens outside the grammar
number_of BadGrammar = 13
-- name rules or name counts broken
number_of BadNames = 14
-- rate rules broken
number_of BadRates = 15
-- orchestra too large
number_of TooLarge = 16
-- (M-107) a settings record of another version
number_of UnknownVersion = 17
-- (M-100) text that is no score line, or a line too many
number_of BadText = 18
-- (M-100) a line that text cannot say: no time, use-if-late set, or a number without text
number_of NoText = 19
-- (M-107) an undo where one record is in use
number_of NothingToUndo = 21

-- 0 is the only number that is no refusal
abbrev pub is_taken : Answer → Bool
is_taken a = eqb (number_of a) 0
