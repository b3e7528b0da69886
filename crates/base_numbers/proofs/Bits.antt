-- Which floats are not-a-number: those that differ from themselves; they have one pattern.
use mathlib.Core.Path.{◌≡◌, sym, ap}
use mathlib.Core.Bool.{true, false, not, true≢false}
use lib.Dec.{T}
use lib.Ieee.{Float, nan, inf, fin, binary32, to_bits, eq, ne, is_nan}
use lib.Ieee.Compare.{differs_from_itself}

pub no_nan : (x : Float) → eq x x ≡ true → T (not (is_nan x))
unfolding eq is_nan
no_nan nan e = absurd (true≢false (sym e))
no_nan (inf s) e = tt
no_nan (fin s m d) e = tt

pub nan-bits : (x : Float) → eq x x ≡ false → 0x7fc0_0000 ≡ to_bits binary32 x
unfolding ne to_bits
nan-bits x e = ap (to_bits binary32) (sym (differs_from_itself x (rw e tt)))
