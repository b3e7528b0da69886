-- A float with another sign bit; what a number in text means, with a minus and without. Assumes nothing.
use Prim.Native.Nat.{ℕ, zero, suc, ◌*◌, ◌^◌}
use mathlib.Core.Path.{◌≡◌, refl}
use mathlib.Core.Bool.{Bool, true, false, cond}
use lib.Dec.{ltb}
use lib.Ieee.{Float, nan, inf, fin, binary32, neg, odd, units, round}
use lib.Ieee.Fits.{round_is}
use lib.Ieee.Order.{drop, kept}
use lib.Ieee.Scale.{overflow}
use Rattle.text_numerals.specs.Numeral.{float_of}

unfoldable pub signed : Bool → Float → Float
signed s nan = nan
signed s (inf t) = inf s
signed s (fin t m e) = fin s m e

signed_odd : (s t b : Bool) (d q k l : ℕ) → signed s (cond b (odd d t q k l) (inf t)) ≡ cond b (odd d s q k l) (inf s)
unfolding odd signed
signed_odd s t true d zero k l = refl
signed_odd s t true d (suc q) k l = refl
signed_odd s t false d q k l = refl

signed_units : (s t : Bool) (q k : ℕ) → signed s (units binary32 t q k) ≡ units binary32 s q k
unfolding units
signed_units s t q k = signed_odd s t (ltb (q * 2 ^ k) (overflow binary32)) 25 q k 149

signed_round : (s t : Bool) (n c : ℕ) → signed s (round binary32 t n c) ≡ round binary32 s n c
signed_round s t n c = cc (round_is binary32 t n c, signed_units s t (kept 24 (n * 2 ^ 149) c) (drop 24 (n * 2 ^ 149) c), round_is binary32 s n c)

-- the minus sets the sign bit, and nothing else
pub signed-float : (s t : Bool) (n d : ℕ) → signed s (float_of t n d) ≡ float_of s n d
unfolding float_of
signed-float s t n d = signed_round s t n (10 ^ d)

neg-signed : (x : Float) → neg (signed false x) ≡ signed true x
unfolding neg signed
neg-signed nan = refl
neg-signed (inf s) = refl
neg-signed (fin s m e) = refl

pub minus-float : (n d : ℕ) → neg (float_of false n d) ≡ float_of true n d
minus-float n d = cc (signed-float false true n d, neg-signed (float_of true n d), signed-float true true n d)
