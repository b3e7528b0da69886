-- Numbers and names in text, and what is read at their start. Assumes nothing.
use Prim.Native.Nat.{ℕ}
use Prim.Native.Char.{code}
use Prim.Native.String.{String, [] as empty, ◌∷◌ as ◌before◌}
use mathlib.Core.Path.{◌≡◌, refl}
use mathlib.Core.Bool.{true, false}
use mathlib.Core.List.{List, [], ◌∷◌, map}
use lib.ListN.{replicate}
use Rattle.text_numerals.specs.Numeral.{float_of}
use Rattle.text_numerals.specs.inside.Reading.{got, refused, number_from, name_from}

-- the bytes of a text
abbrev pub bytes : String → List ℕ
bytes empty = []
bytes (c before s) = code c ∷ bytes s

-- ---- numbers

-- below 2 ^ 24; leading zeros are none, and those behind the point are decimals
largest : number_from (bytes "16777215 end") ≡ got (float_of false 16777215 0) (bytes " end")
unfolding number_from
largest = refl

three-decimals : number_from (bytes "-00016777.210") ≡ got (float_of true 16777210 3) []
unfolding number_from
three-decimals = refl

-- too large, with the point left out too; four decimals; no digit before the point, and none behind it; a plus, and two signs
no-numbers : map (λ (t : String). number_from (bytes t)) ("16777216 end" ∷ "1677721.6 end" ∷ "0.1250" ∷ ".5" ∷ "5. end" ∷ "+5" ∷ "--5" ∷ []) ≡ replicate 7 refused
unfolding number_from
no-numbers = refl

-- ---- names

-- the last one, and no name; the name of 0 ends behind its 0
names : map (λ (t : String). name_from (bytes t)) ("s65535:" ∷ "s65536:" ∷ "s01" ∷ []) ≡ got 65535 (bytes ":") ∷ refused ∷ got 0 (bytes "1") ∷ []
unfolding name_from
names = refl
