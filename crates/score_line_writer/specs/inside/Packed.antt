-- A list of fields in the code's arrays. Definitions only.
use Rattle.std.specs.Prelude.{ℕ, ◌+◌, ◌*◌, ◌≤◌, ◌≡◌, List, [], ◌∷◌, ◌++◌, Bool, length, take, get_or}
use Rattle.base_bitstream.specs.Fields.{farthest, over}
use Rattle.base_formats.specs.Format.{Field, of, field_words, field_bits}
use Rattle.base_formats.specs.inside.Lengths.{field_widths, widths}
use Rattle.score_line_writer.specs.declared.Fields.{Fields}
use Rattle.score_line_writer.specs.Writing.{to_slot}
use Rattle.score_line.specs.LineFormat.{slot_words}

unfoldable pub packed : List Field → Fields
packed fs = record { count = length fs; bits = widths fs; widths = to_slot (field_widths fs); values = to_slot (field_words fs) }

-- there is room for n fields more, and the bits so far are few
pub record Room (f : Fields) (n : ℕ) : Type 0 where
  pub room : f.count + n ≤ slot_words
  pub few : f.bits ≤ 32 * f.count

-- r is f and these fields behind it, at most n
pub record Joined (f : Fields) (fs : List Field) (n : ℕ) (r : Fields) : Type 0 where
  pub count : r.count ≤ f.count + n
  pub few : r.bits ≤ 32 * r.count
  pub joins : (before : List Field) → f ≡ packed before → r ≡ packed (before ++ fs)

-- ---- fields out of the arrays

abbrev pub zipped : List ℕ → List ℕ → List Field
zipped [] vs = []
zipped (w ∷ ws) [] = []
zipped (w ∷ ws) (v ∷ vs) = of w v ∷ zipped ws vs

-- the first n
abbrev pub fields_in : ℕ → List ℕ → List ℕ → List Field
fields_in n ws vs = zipped (take n ws) (take n vs)

-- that many bits have these fields at a position
pub record Writable (bits at n : ℕ) (ws vs : List ℕ) : Type 0 where
  pub few : n ≤ slot_words
  pub narrow : (i : ℕ) → get_or ws i 0 ≤ 32
  pub near : at + widths (fields_in n ws vs) ≤ farthest
  pub within : at + widths (fields_in n ws vs) ≤ bits

-- the fields stand in the bits from a position on, all else is as it was, and p is the position past them
pub record Wrote (old : List Bool) (at : ℕ) (fs : List Field) (new : List Bool) (p : ℕ) : Type 0 where
  pub past : p ≡ at + widths fs
  pub stands : new ≡ over old at (field_bits fs [])
