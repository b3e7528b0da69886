-- A field out of the number of a few whole bytes; and which bytes a write leaves. Assumes nothing.
use Prim.Native.Nat.{ℕ, zero, suc, ◌+◌, ◌-◌, ◌*◌, ◌/◌, ◌%◌, ◌^◌, ◌<◌, ◌≤◌}
use mathlib.Core.Path.{◌≡◌, refl, sym, ap}
use mathlib.Core.Bool.{Bool}
use mathlib.Core.List.{List, [], ◌∷◌, ◌++◌, append_assoc, append-nil}
use native.Mathlib.Nat.{add_assoc, mul_assoc, add-mul, suc-add, zero-add, mod-eq_of_lt}
use native.Mathlib.Omega.{arith}
use lib.ListN.{length, get_or, take, drop, length-append, length-drop, take-append-drop}
use lib.Seq.{take-nil, take-take, drop-drop, take-suc, get_or-drop, length-take-le}
use lib.Pow.{pow-add, high, low}
use Rattle.base_bitstream.specs.Bits.{field, bits_of, value_of, digit}
use Rattle.base_bitstream.proofs.BitValues.{length-field, value_of-field, value_of-lt, length-bits_of}
use Rattle.base_bitstream.specs.Fields.{over}
use Rattle.base_bitstream.proofs.Fields.{past-over, before-over, bits_of-inj, bits_of-drop}

pub value_of-append : (a b : List Bool) → value_of (a ++ b) ≡ value_of a * 2 ^ length b + value_of b
unfolding value_of
value_of-append [] b = omega arith
value_of-append (c ∷ a) b =
    rw (length-append a b, pow-add 2 (length a) (length b), value_of-append a b, ← mul_assoc, add-mul) (sym (add_assoc (digit c * 2 ^ length a * 2 ^ length b) (value_of a * 2 ^ length b) (value_of b)))

-- n bits from place r of bits, out of their number
pub value-part : (l : List Bool) (r n k : ℕ) → r + n + k ≡ length l → value_of (take n (drop r l)) ≡ value_of l / 2 ^ k % 2 ^ n
value-part l r n k e =
    let m = take n (drop r l) in
    let z = drop n (drop r l) in
    let lz : length z ≡ k = omega (arith, length-drop n (drop r l), length-drop r l) in
    let lm : length m ≡ n = length-take-le n (drop r l) (rw length-drop (omega arith)) in
    let s : value_of l ≡ (value_of (take r l) * 2 ^ n + value_of m) * 2 ^ k + value_of z =
    cc (take-append-drop r l, take-append-drop n (drop r l), append_assoc (take r l) m z, value_of-append (take r l ++ m) z, value_of-append (take r l) m) in
    cc (high (value_of (take r l) * 2 ^ n + value_of m) k (rw lz at (value_of-lt z)), low (value_of (take r l)) n (rw lm at (value_of-lt m)))

-- ---- whole bytes

pub bits_of-append : (a b : List ℕ) → bits_of (a ++ b) ≡ bits_of a ++ bits_of b
unfolding bits_of
bits_of-append [] b = refl
bits_of-append (x ∷ a) b = cc (bits_of-append a b, append_assoc (field 8 x) (bits_of a) (bits_of b))

-- one more byte
pub window_more : (s : List ℕ) (q i : ℕ) → q + i < length s → get_or s (q + i) 0 < 2 ^ 8 → value_of (bits_of (take (suc i) (drop q s))) ≡ value_of (bits_of (take i (drop q s))) * 256 + get_or s (q + i) 0
unfolding bits_of
window_more s q i h hb =
    let t = drop q s in
    let b = get_or s (q + i) 0 in
    let hl : i < length t = rw length-drop (omega arith) in
    let v = value_of-append (bits_of (take i t)) (field 8 b) in
    cc (take-suc t i 0 hl, get_or-drop q s i 0, bits_of-append (take i t) (b ∷ []), append-nil (field 8 b), value_of-field 8 b, mod-eq_of_lt hb, length-field 8 b)

drop-take : (r j : ℕ) (l : List Bool) → drop r (take (r + j) l) ≡ take j (drop r l)
drop-take zero j l = ap (λ (x : ℕ). take x l) (zero-add j)
drop-take (suc r) j [] = cc (take-nil {A = Bool} (suc r + j), take-nil {A = Bool} j)
drop-take (suc r) j (x ∷ l) = rw (suc-add r j) (drop-take r j l)

pub bits_of-take : (k : ℕ) (s : List ℕ) → bits_of (take k s) ≡ take (8 * k) (bits_of s)
unfolding bits_of
bits_of-take zero s = refl
bits_of-take (suc k) [] = sym (take-nil (8 * suc k))
bits_of-take (suc k) (b ∷ s) =
    let e : 8 * suc k ≡ 8 + 8 * k = omega arith in
    cc (bits_of-take k s, length-field 8 b, lib.Seq.take-append-add (field 8 b) (bits_of s) (8 * k))

-- the bits from 8 * q + r on, out of the k bytes from q on
pub in_window : (s : List ℕ) (q r n k : ℕ) → r + n ≤ 8 * k → take n (drop r (bits_of (take k (drop q s)))) ≡ take n (drop (8 * q + r) (bits_of s))
in_window s q r n k h =
    let l = drop (8 * q) (bits_of s) in
    let j = 8 * k - r in
    let e : 8 * k ≡ r + j = omega arith in
    cc (bits_of-take k (drop q s), bits_of-drop q s, drop-take r j l, take-take n j (drop r l) (omega arith), drop-drop r (8 * q) (bits_of s))

-- ---- what a write leaves

-- the bytes past a written field stay
pub bytes_after : (s t : List ℕ) (at : ℕ) (b : List Bool) (k : ℕ) → ((i : ℕ) → get_or s i 0 < 2 ^ 8) → ((i : ℕ) → get_or t i 0 < 2 ^ 8)
    → at + length b ≤ 8 * length s → at + length b ≤ 8 * k → bits_of t ≡ over (bits_of s) at b → drop k t ≡ drop k s
bytes_after s t at b k hs ht h hk e =
    bits_of-inj (drop k t) (drop k s) (λ i. rw (get_or-drop k t i 0) (ht (k + i))) (λ i. rw (get_or-drop k s i 0) (hs (k + i)))
    (cc (bits_of-drop k t, past-over (bits_of s) at b (rw length-bits_of h) (8 * k) hk, bits_of-drop k s))

pub below-take : (b k : ℕ) (s : List ℕ) → 0 < b → ((i : ℕ) → get_or s i 0 < b) → (i : ℕ) → get_or (take k s) i 0 < b
below-take b zero s p h i = p
below-take b (suc k) [] p h i = p
below-take b (suc k) (x ∷ s) p h zero = h 0
below-take b (suc k) (x ∷ s) p h (suc i) = below-take b k s p (λ j. h (suc j)) i

-- the bytes before it stay too
pub bytes-before : (s t : List ℕ) (at : ℕ) (b : List Bool) (k : ℕ) → ((i : ℕ) → get_or s i 0 < 2 ^ 8) → ((i : ℕ) → get_or t i 0 < 2 ^ 8)
    → at + length b ≤ 8 * length s → 8 * k ≤ at → bits_of t ≡ over (bits_of s) at b → take k t ≡ take k s
bytes-before s t at b k hs ht h hk e =
    bits_of-inj (take k t) (take k s) (below-take (2 ^ 8) k t (omega arith) ht) (below-take (2 ^ 8) k s (omega arith) hs)
    (cc (bits_of-take k t, before-over (bits_of s) at b (rw length-bits_of h) (8 * k) hk, bits_of-take k s))
