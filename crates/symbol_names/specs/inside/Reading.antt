-- A symbol table read from its first bit on; `Claims` ties it to the encoding. Definitions only.
use Rattle.std.specs.Prelude.{ℕ, zero, suc, ◌*◌, Bool, ◌&&◌, cond, List, [], ◌∷◌, length, take, drop, leb, ltb, eqb}
use Rattle.base_answer.specs.declared.Answer.TheVariants.{CutShort, LeftOver}
use Rattle.base_bitstream.specs.Bits.{bits_of, value_of}
use Rattle.base_bitstream.specs.Filling.{bytes_from}
use Rattle.symbol_names.specs.Form.{Names, count_bits, length_bits}
use Rattle.symbol_names.specs.Form.{Table, holds, refused}

-- what reading gives, and the bits behind it; or the bits end first
pub data Read (A : Type 0) : Type 0 where
  got : A → List Bool → Read A
  cut : Read A

abbrev pub and_then : {A B : Type 0} → Read A → (A → List Bool → Read B) → Read B
and_then (got a r) f = f a r
and_then cut f = cut

-- a number of n bits
unfoldable pub number_from : ℕ → List Bool → Read ℕ
number_from n l = cond (leb n (length l)) (got (value_of (take n l)) (drop n l)) cut

-- n bytes
unfoldable pub stretch_from : ℕ → List Bool → Read (List ℕ)
stretch_from n l = cond (leb (8 * n) (length l)) (got (bytes_from n l) (drop (8 * n) l)) cut

unfoldable pub name_from : List Bool → Read (List ℕ)
unfolding number_from stretch_from
name_from l = and_then (number_from length_bits l) stretch_from

unfoldable pub names_from : ℕ → List Bool → Read Names
unfolding name_from
names_from zero l = got [] l
names_from (suc k) l = and_then (name_from l) (λ name r. and_then (names_from k r) (λ names q. got (name ∷ names) q))

unfoldable pub table_from : List Bool → Read Names
unfolding number_from names_from
table_from l = and_then (number_from count_bits l) names_from

-- fewer than 8 bits, all zero
abbrev pub is_filling : List Bool → Bool
is_filling l = ltb (length l) 8 && eqb (value_of l) 0

abbrev pub judged : Read Names → Table
judged (got names r) = cond (is_filling r) (holds names) (refused LeftOver)
judged cut = refused CutShort

unfoldable pub table_of : List ℕ → Table
unfolding table_from
table_of bytes = judged (table_from (bits_of bytes))
