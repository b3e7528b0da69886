-- What the code's results stand for: what was read, and the bytes behind it. Definitions and statements only.
use Rattle.std.specs.Prelude.{ℕ, ◌-◌, ◌<◌, ◌≤◌, ◌≡◌, Bool, true, List, length, drop, Float, Option, Some, None}
use Rattle.text_numerals.specs.inside.Reading.{Read, got, refused, Run, starts_with}

-- the position where the bytes behind it begin
abbrev pub position : List ℕ → List ℕ → ℕ
position s after = length s - length after

-- ---- a number, a name

-- by its value and the bytes behind it
abbrev pub read_is : {A : Type 0} → List ℕ → Option (A × ℕ) → Read A
read_is s (Some r) = got r.0 (drop r.1 s)
read_is s None = refused

abbrev pub number_is : List ℕ → Option (Float × ℕ) → Read Float
number_is s r = read_is s r

abbrev pub name_is : List ℕ → Option (ℕ × ℕ) → Read ℕ
name_is s r = read_is s r

-- the result itself: its value and the position past it
unfoldable pub read_told : {A : Type 0} → List ℕ → Read A → Option (A × ℕ)
read_told s (got x after) = Some (x, position s after)
read_told s refused = None

abbrev pub number_told : List ℕ → Read Float → Option (Float × ℕ)
number_told s x = read_told s x

abbrev pub name_told : List ℕ → Read ℕ → Option (ℕ × ℕ)
name_told s x = read_told s x

pub record ReadAt {A : Type 0} (s : List ℕ) (x : Read A) (r : Option (A × ℕ)) : Type 0 where
  pub told : r ≡ read_told s x
  pub is : read_is s r ≡ x

abbrev pub NumberAt : List ℕ → Read Float → Option (Float × ℕ) → Type 0
NumberAt s x r = ReadAt s x r

abbrev pub NameAt : List ℕ → Read ℕ → Option (ℕ × ℕ) → Type 0
NameAt s x r = ReadAt s x r

-- ---- document 02's number of each case: 0, or 18 where what stands there is none

abbrev pub number_of : {A : Type 0} → Read A → ℕ
number_of (got x after) = 0
number_of refused = 18

abbrev pub read_answer : {A : Type 0} → Option A → ℕ
read_answer (Some r) = 0
read_answer None = 18

abbrev pub number_answer : Option (Float × ℕ) → ℕ
number_answer r = read_answer r

abbrev pub name_answer : Option (ℕ × ℕ) → ℕ
name_answer r = read_answer r

abbrev pub EveryNumberAnswer : Type 0
EveryNumberAnswer = (s : List ℕ) (x : Read Float) → number_answer (number_told s x) ≡ number_of x

abbrev pub EveryNameAnswer : Type 0
EveryNameAnswer = (s : List ℕ) (x : Read ℕ) → name_answer (name_told s x) ≡ number_of x

-- ---- digits: the number that they make, how many they are and the position past them

abbrev pub digits_is : List ℕ → Option (ℕ × ℕ × ℕ) → Read Run
digits_is s (Some r) = got (record { number = r.0; count = r.1 }) (drop r.2 s)
digits_is s None = refused

abbrev pub count_in : Option (ℕ × ℕ × ℕ) → ℕ
count_in (Some r) = r.1
count_in None = 0

abbrev pub past_in : Option (ℕ × ℕ × ℕ) → ℕ
past_in (Some r) = r.2
past_in None = 0

pub record DigitsAt (s : List ℕ) (x : Read Run) (r : Option (ℕ × ℕ × ℕ)) : Type 0 where
  pub is : digits_is s r ≡ x
  pub within : 0 < count_in r → past_in r ≤ length s

-- a byte at a position, or none
pub record Starts (s : List ℕ) (at b : ℕ) (r : Bool) : Type 0 where
  pub is : r ≡ starts_with b (drop at s)
  pub within : r ≡ true → at < length s
