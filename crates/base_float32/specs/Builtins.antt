-- Document 01, "What the code does": each built-in on 32-bit floats, over IEEE 754's values. Definitions only.
use Rattle.std.specs.Prelude.{◌*◌, ◌/◌, Bool, true, false, cond, not, ◌&&◌, ◌||◌, pos, ◌==◌, from_bits, Float}
use Rattle.std.specs.Float.{nan, inf, fin, binary32}
use Rattle.std.specs.Float.Ieee.{up, down, sub, lt, ne, round}

-- +0, 1 and -1
abbrev pub zero_f : Float
zero_f = from_bits binary32 0

abbrev pub one_f : Float
one_f = fin false 1 (pos 0)

abbrev pub minus_one_f : Float
minus_one_f = fin true 1 (pos 0)

-- abs clears the sign
unfoldable pub abs_of : Float → Float
abs_of nan = nan
abs_of (inf s) = inf false
abs_of (fin s m e) = fin false m e

-- sgn gives 1, -1 or +0, and +0 for not-a-number
unfoldable pub sgn_of : Float → Float
sgn_of x = cond (lt zero_f x) one_f (cond (lt x zero_f) minus_one_f zero_f)

-- int drops the fraction; a zero answer is +0, infinities and not-a-number stay
unfoldable pub int_of : Float → Float
int_of nan = nan
int_of (inf s) = inf s
int_of (fin s m e) = let n = m * up e / down e in cond (n == 0) zero_f (round binary32 s n 1)

-- frac(x) is x minus int(x)
unfoldable pub frac_of : Float → Float
frac_of x = sub binary32 x (int_of x)

-- min(x,y) is y if y < x, else x
unfoldable pub min_of : Float → Float → Float
min_of x y = cond (lt y x) y x

-- max(x,y) is y if x < y, else x
unfoldable pub max_of : Float → Float → Float
max_of x y = cond (lt x y) y x

-- comparison and logic give 1 or 0
unfoldable pub flag_of : Bool → Float
flag_of b = cond b one_f zero_f

-- anything not equal to 0 counts as true, not-a-number included
unfoldable pub truth : Float → Bool
truth x = ne x zero_f

-- || and &&, both sides worked, and !
unfoldable pub either_of : Float → Float → Float
either_of x y = flag_of (truth x || truth y)

unfoldable pub both_of : Float → Float → Float
both_of x y = flag_of (truth x && truth y)

unfoldable pub not_of : Float → Float
not_of x = flag_of (not (truth x))

-- c ? x : y
unfoldable pub select_of : Float → Float → Float → Float
select_of c x y = cond (truth c) x y
