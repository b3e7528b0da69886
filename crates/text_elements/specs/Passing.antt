-- What the code's result stands for. Definitions and statements only.
use Rattle.std.specs.Prelude.{ℕ, ◌≤◌, ◌≡◌, List, length, drop, Option, Some, None}
use Rattle.text_numerals.specs.inside.Reading.{Read, got, refused}
use Rattle.text_number_reader.specs.Results.{position, number_of}
use Rattle.text_format.specs.inside.Reading.{past_spaces}

-- by the bytes behind it
abbrev pub passed_is : List ℕ → Option ℕ → Read (Unit {0})
passed_is s (Some p) = got tt (drop p s)
passed_is s None = refused

-- the result itself, the position past what stood there
unfoldable pub passed_told : List ℕ → Read (Unit {0}) → Option ℕ
passed_told s (got u after) = Some (position s after)
passed_told s refused = None

pub record PassedAt (s : List ℕ) (x : Read (Unit {0})) (r : Option ℕ) : Type 0 where
  pub told : r ≡ passed_told s x
  pub is : passed_is s r ≡ x

-- spaces, none or more, from a position among the bytes on
pub record SpacesPast (s : List ℕ) (at p : ℕ) : Type 0 where
  pub is : drop p s ≡ past_spaces (drop at s)
  pub within : at ≤ length s → p ≤ length s

-- a word, and the position past it: as many bytes on as it has, for the word of no bytes too
unfoldable pub word_told : ℕ → Read (Unit {0}) → Option ℕ
word_told past (got u after) = Some past
word_told past refused = None

pub record WordAt (s : List ℕ) (past : ℕ) (x : Read (Unit {0})) (r : Option ℕ) : Type 0 where
  pub told : r ≡ word_told past x
  pub is : passed_is s r ≡ x

-- document 02's number of each case: 0, or 18 where what had to stand there does not
abbrev pub passed_answer : Option ℕ → ℕ
passed_answer (Some p) = 0
passed_answer None = 18

abbrev pub EveryPassedAnswer : Type 0
EveryPassedAnswer = (s : List ℕ) (x : Read (Unit {0})) → passed_answer (passed_told s x) ≡ number_of x
