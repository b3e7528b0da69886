-- Document 01's signs: "they count from 1 in this order". Only this list gives a sign its number; everything else names signs.
use Rattle.std.specs.Prelude.{ℕ, zero, suc, List, [], ◌∷◌}

pub data Sign : Type 0 where
  instr ivar ksig asig imports output if else : Sign
  abs sgn int frac min max : Sign
  -- ( ) { } , ; = ? :
  round_open round_close curly_open curly_close comma semicolon becomes question colon : Sign
  || && == != < > <= >= + - * / ! : Sign
  deriving Discrete as same

-- document 01's list
abbrev pub signs : List Sign
signs =
    instr ∷ ivar ∷ ksig ∷ asig ∷ imports ∷ output ∷ if ∷ else ∷ abs ∷ sgn ∷ int ∷ frac ∷ min ∷ max
    ∷ round_open ∷ round_close ∷ curly_open ∷ curly_close ∷ comma ∷ semicolon ∷ becomes ∷ question ∷ colon
    ∷ || ∷ && ∷ == ∷ != ∷ < ∷ > ∷ <= ∷ >= ∷ + ∷ - ∷ * ∷ / ∷ ! ∷ []

-- how many of a list stand before a sign
abbrev pub before : Sign → List Sign → ℕ
before s [] = zero
before s (t ∷ ts) = elim (same s t) [ yes e ↦ zero | no e ↦ suc (before s ts) ]

-- a sign's number: its index in the list, plus one
abbrev pub number : Sign → ℕ
number s = suc (before s signs)
