-- The laws of `field`, `value_of` and `bits_of`, each once for every width. Assumes nothing.
use Prim.Native.Nat.{ℕ, zero, suc, ◌+◌, ◌-◌, ◌*◌, ◌/◌, ◌%◌, ◌^◌, ◌<◌, ◌≤◌}
use mathlib.Core.Path.{◌≡◌, refl, sym, ap, ◌∙◌}
use mathlib.Core.Bool.{Bool, true, false}
use mathlib.Core.List.{List, [], ◌∷◌, ◌++◌}
use native.Mathlib.Nat.{add_comm, mul_assoc, mul_comm, zero-add, add-zero, mod-lt, mul-add-mod_self_right, mod-one, pow-suc, mul-add-div_right, suc-add, div-add-mod'}
use native.Mathlib.Numerals.{add-one}
use native.Mathlib.Omega.{arith}
use borrow.Author.Tests.{leb-true, leb-false, eqb-true, eqb-false}
use borrow.Table.Steps.{cases}
use lib.Arith.{lt_of_le-ne, digits_lt}
use lib.ListN.{length, get_or, set, length-append, length-set}
use lib.Seq.{ext_get_or, get_or-set_same, get_or-set_other, set-append_left}
use lib.Dec.{eqb, leb}
use lib.Pow.{pow_pos, pow-add, high, split, mod-pow-add, shr-shr, shr_lt}
use Rattle.base_bitstream.specs.Bits.{bit, field, bits_of, digit, value_of}

-- ---- one bit

pub digit_lt : (b : Bool) → digit b < 2
digit_lt true = omega arith
digit_lt false = omega arith

pub digit-bit : (k v : ℕ) → digit (bit k v) ≡ v / 2 ^ k % 2
unfolding bit
digit-bit k v = go (v / 2 ^ k % 2) (mod-lt (v / 2 ^ k) (omega arith))
  where
    go : (x : ℕ) → x < 2 → digit (eqb x 1) ≡ x
    go zero h = refl
    go (suc zero) h = refl
    go (suc (suc x)) h = absurd (omega arith)

bit-own : (b : Bool) → bit 0 (digit b) ≡ b
unfolding bit
bit-own true = refl
bit-own false = refl

-- a bit below the place m does not see what stands from m on
pub bit-low : (k m a w : ℕ) → k < m → bit k (a * 2 ^ m + w) ≡ bit k w
unfolding bit
bit-low k m a w h =
    let j = m - suc k in
    let e : m ≡ suc (j + k) = omega arith in
    let o : 2 ^ m ≡ 2 ^ j * 2 ^ k * 2 = cc (pow-suc 2 (j + k), pow-add 2 j k) in
    let p : a * 2 ^ m ≡ a * 2 ^ j * 2 * 2 ^ k = rw o (simp (mul_assoc, mul_comm (2 ^ k) 2)) in
    rw (p, mul-add-div_right (pow_pos k) (a * 2 ^ j * 2) w, mul-add-mod_self_right (a * 2 ^ j) 2 (w / 2 ^ k))

-- a bit from the place m on does not see what stands below
pub bit_high : (j m a w : ℕ) → w < 2 ^ m → bit (m + j) (a * 2 ^ m + w) ≡ bit j a
unfolding bit
bit_high j m a w h = cc (shr-shr (a * 2 ^ m + w) m j, high a m h)

pub bit-mod : (k m v : ℕ) → k < m → bit k (v % 2 ^ m) ≡ bit k v
bit-mod k m v h = cc (bit-low k m (v / 2 ^ m) (v % 2 ^ m) h, split v m)

-- ---- a field

pub length-field : (n v : ℕ) → length (field n v) ≡ n
unfolding field
length-field zero v = refl
length-field (suc n) v = ap suc (length-field n v)

pub get_d-field : (n v i : ℕ) → i < n → get_or (field n v) i false ≡ bit (n - suc i) v
unfolding field
get_d-field zero v i h = absurd (omega arith)
get_d-field (suc n) v zero h = let e : n ≡ suc n - 1 = omega arith in cc
get_d-field (suc n) v (suc i) h =
    let e : n - suc i ≡ suc n - suc (suc i) = omega arith in
    cc (get_d-field n v i (omega arith))

-- a field of n bits sees only the lowest n
pub field-low : (n m a w : ℕ) → n ≤ m → field n (a * 2 ^ m + w) ≡ field n w
unfolding field
field-low zero m a w h = refl
field-low (suc n) m a w h = cc (bit-low n m a w h, field-low n m a w (omega arith))

pub value_of-lt : (l : List Bool) → value_of l < 2 ^ length l
unfolding value_of
value_of-lt [] = omega arith
value_of-lt (true ∷ l) = rw pow-suc (omega (arith, value_of-lt l))
value_of-lt (false ∷ l) = rw pow-suc (omega (arith, value_of-lt l))

-- ---- one law each way, over the width

-- what a field writes is read back
pub value_of-field : (n v : ℕ) → value_of (field n v) ≡ v % 2 ^ n
unfolding field value_of
value_of-field zero v = sym (mod-one v)
value_of-field (suc n) v = cc (digit-bit n v, length-field n v, value_of-field n v, mod-pow-add v 1 n, add_comm 1 n, add-one n)

-- and any bits are the field of the number that they write
pub field-value_of : (l : List Bool) → field (length l) (value_of l) ≡ l
unfolding field value_of bit
field-value_of [] = refl
field-value_of (b ∷ l) =
    let n = length l in
    cc (add-zero n, bit_high 0 n (digit b) (value_of l) (value_of-lt l), bit-own b, field-low n n (digit b) (value_of l) (omega arith), field-value_of l)

-- ---- bytes

pub length-bits_of : (s : List ℕ) → length (bits_of s) ≡ 8 * length s
unfolding bits_of
length-bits_of [] = refl
length-bits_of (b ∷ s) = omega (arith, length-append (field 8 b) (bits_of s), length-field 8 b, length-bits_of s)

-- ---- storing

set-append-add : (xs ys : List Bool) (n : ℕ) (b : Bool) → set (xs ++ ys) (length xs + n) b ≡ xs ++ set ys n b
set-append-add [] ys n b = ap (λ (k : ℕ). set ys k b) (zero-add n)
set-append-add (x ∷ xs) ys n b = rw (suc-add (length xs) n, set-append-add xs ys n b)

-- v with the bit at the place m set to b
unfoldable pub with_bit : ℕ → Bool → ℕ → ℕ
with_bit m b v = (v / 2 ^ m / 2 * 2 + digit b) * 2 ^ m + v % 2 ^ m

low-lt : (v m : ℕ) → v % 2 ^ m < 2 ^ m
low-lt v m = mod-lt v (pow_pos m)

bit-with_bit-same : (m v : ℕ) (b : Bool) → bit m (with_bit m b v) ≡ b
unfolding with_bit
bit-with_bit-same m v b =
    let h = v / 2 ^ m / 2 in
    cc (add-zero m, bit_high 0 m (h * 2 + digit b) (v % 2 ^ m) (low-lt v m), bit-low 0 1 h (digit b) (omega arith), bit-own b)

bit-with_bit-below : (k m v : ℕ) (b : Bool) → k < m → bit k (with_bit m b v) ≡ bit k v
unfolding with_bit
bit-with_bit-below k m v b h = bit-low k m (v / 2 ^ m / 2 * 2 + digit b) (v % 2 ^ m) h ∙ bit-mod k m v h

bit-with_bit-above : (j m v : ℕ) (b : Bool) → bit (m + (1 + j)) (with_bit m b v) ≡ bit (m + (1 + j)) v
unfolding with_bit
bit-with_bit-above j m v b =
    let h = v / 2 ^ m / 2 in
    let new : bit (m + (1 + j)) (with_bit m b v) ≡ bit j h = cc (bit_high (1 + j) m (h * 2 + digit b) (v % 2 ^ m) (low-lt v m), bit_high j 1 h (digit b) (digit_lt b)) in
    let old = bit_high j 1 h (v / 2 ^ m % 2) (mod-lt (v / 2 ^ m) (omega arith)) in
    cc (div-add-mod' (v / 2 ^ m) 2, split v m, bit_high (1 + j) m (v / 2 ^ m) (v % 2 ^ m) (low-lt v m))

bit-with_bit-other : (k m v : ℕ) (b : Bool) → (k ≡ m → ⊥) → bit k (with_bit m b v) ≡ bit k v
bit-with_bit-other k m v b n =
    cases (leb m k)
    (λ h. let l : m < k = lt_of_le-ne (leb-true m k h)
    (λ e. n (sym e)) in let e : m + (1 + (k - suc m)) ≡ k = omega arith in rw e at (bit-with_bit-above (k - suc m) m v b))
    (λ h. bit-with_bit-below k m v b (leb-false m k h))

-- a stored bit is a stored bit of the field
pub field-with_bit : (n v j : ℕ) (b : Bool) → j < n → field n (with_bit (n - suc j) b v) ≡ set (field n v) j b
field-with_bit n v j b h =
    ext_get_or false (field n (with_bit (n - suc j) b v)) (set (field n v) j b)
    (length-field n _ ∙ sym (length-set (field n v) j b ∙ length-field n v))
    (λ i hi. let l : i < n = rw (length-field n (with_bit (n - suc j) b v)) at hi in
    let g = get_d-field n (with_bit (n - suc j) b v) i l in
    cases (eqb i j)
    (λ e. let q = eqb-true i j e in cc (g, bit-with_bit-same (n - suc j) v b, get_or-set_same (field n v) j b false (rw length-field h)))
    (λ e.
    let ne = eqb-false i j e in
    cc (g, bit-with_bit-other (n - suc i) (n - suc j) v b (λ z. ne (omega arith)), get_or-set_other (field n v) j i b false ne, get_d-field n v i l)))

-- a bit stored in a byte is a bit stored in the bits
pub set-bits_of : (s : List ℕ) (q j : ℕ) (b : Bool) → j < 8 → q < length s → bits_of (set s q (with_bit (7 - j) b (get_or s q 0))) ≡ set (bits_of s) (8 * q + j) b
unfolding bits_of
set-bits_of [] q j b hj h = absurd (omega arith)
set-bits_of (x ∷ s) zero j b hj h =
    let e : 7 - j ≡ 8 - suc j = omega arith in
    cc (field-with_bit 8 x j b hj, zero-add j, set-append_left (field 8 x) (bits_of s) j b (rw length-field hj))
set-bits_of (x ∷ s) (suc q) j b hj h =
    let e : 8 * suc q + j ≡ 8 + (8 * q + j) = omega arith in
    cc (set-bits_of s q j b hj (omega arith), length-field 8 x, set-append-add (field 8 x) (bits_of s) (8 * q + j) b)

-- a byte with a stored bit is a byte
pub with-lt : (m v d : ℕ) → m < 8 → v < 2 ^ 8 → d < 2 → (v / 2 ^ m / 2 * 2 + d) * 2 ^ m + v % 2 ^ m < 2 ^ 8
with-lt m v d hm hv hd =
    let j = 7 - m in
    let e : suc j + m ≡ 8 = omega arith in
    let w : v / 2 ^ m < 2 ^ suc j = shr_lt (suc j) m (rw e hv) in
    let p : 2 ^ suc j ≡ 2 ^ j * 2 = pow-suc 2 j in
    let q : v / 2 ^ m / 2 * 2 + d < 2 ^ suc j = omega arith in
    rw (← pow-add 2 (suc j) m, e) at (digits_lt q (low-lt v m))
