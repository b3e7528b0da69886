-- Filling: what a filled end says, and that bytes and whole bytes of bits are one. Assumes nothing.
use Prim.Native.Nat.{ℕ, zero, suc, ◌+◌, ◌-◌, ◌*◌, ◌/◌, ◌%◌, ◌^◌, ◌<◌, ◌≤◌}
use mathlib.Core.Path.{◌≡◌, refl, sym, ap, ◌∙◌}
use mathlib.Core.Bool.{Bool, true, false}
use mathlib.Core.List.{List, [], ◌∷◌, ◌++◌, append-nil}
use native.Mathlib.Nat.{mod-eq_of_lt, div-one}
use native.Mathlib.Omega.{arith}
use borrow.Author.Tests.{lt-ltb, le-ltb, ltb-true, eqb-true}
use lib.ListN.{length, get_or, take, drop, replicate, length-append, length-drop, length-replicate, take-append-drop, drop_of_length-le}
use lib.Pow.{pow_pos}
use lib.Seq.{length-take-le, take_at, drop_at, drop-drop, take_all, drop-cons}
use lib.Dec.{eqb, ltb}
use Rattle.base_laws.proofs.Choice.{both_true}
use Rattle.base_bitstream.specs.Bits.{field, bits_of, value_of}
use Rattle.base_bitstream.specs.Filling.{filled, missing, filled_up, bytes_from, bytes_of}
use Rattle.base_bitstream.proofs.BitValues.{length-field, value_of-field, field-value_of, length-bits_of}
use Rattle.base_bitstream.proofs.Fields.{bits_of-drop}
use Rattle.base_bitstream.proofs.Window.{value-part}

-- ---- zeros

pub zeros-value : (n : ℕ) → value_of (replicate n false) ≡ 0
unfolding value_of
zeros-value zero = refl
zeros-value (suc n) = omega (arith, zeros-value n)

pub value-zeros : (l : List Bool) → value_of l ≡ 0 → l ≡ replicate (length l) false
unfolding value_of
value-zeros [] e = refl
value-zeros (true ∷ l) e = absurd (omega (arith, pow_pos (length l)))
value-zeros (false ∷ l) e = cc (value-zeros l (omega arith))

-- what a filled end is
pub filled-back : (l : List Bool) (p : ℕ) → filled l p ≡ true → (length l < p + 8) × (drop p l ≡ replicate (length l - p) false)
unfolding filled
filled-back l p e =
    let f = both_true (ltb (length l) (p + 8)) (eqb (value_of (drop p l)) 0) e in
    (ltb-true _ _ f.0, value-zeros (drop p l) (eqb-true _ _ f.1) ∙ ap (λ (n : ℕ). replicate n false) (length-drop p l))

pub filled-here : (l : List Bool) (p k : ℕ) → k < 8 → drop p l ≡ replicate k false → filled l p ≡ true
unfolding filled
filled-here l p k h e =
    let n : length l - p ≡ k = cc (length-drop p l, length-replicate k false) in
    rw (lt-ltb (length l) (p + 8) (omega arith), e, zeros-value k)

-- bits that are the bits b and a filled end, in whole bytes, are b filled up
pub filled-up : (l b : List Bool) → length l % 8 ≡ 0 → length l < length b + 8 → l ≡ b ++ replicate (length l - length b) false → l ≡ filled_up b
unfolding filled_up
filled-up l b h k e =
    let n : length l ≡ length b + (length l - length b) = ap length e ∙ simp (length-append, length-replicate) in
    let m : length l - length b ≡ missing (length b) = omega arith in
    cc

pub length-filled_up : (l : List Bool) → length (filled_up l) ≡ length l + missing (length l)
unfolding filled_up
length-filled_up l = simp (length-append, length-replicate)

-- ---- bytes

pub bits-bytes_from : (n : ℕ) (l : List Bool) → 8 * n ≡ length l → bits_of (bytes_from n l) ≡ l
unfolding bytes_from bits_of
bits-bytes_from zero [] h = refl
bits-bytes_from zero (b ∷ l) h = absurd (omega arith)
bits-bytes_from (suc n) l h =
    let t = take 8 l in
    let k : length t ≡ 8 = length-take-le 8 l (omega arith) in
    let d : length (drop 8 l) ≡ length l - 8 = length-drop 8 l in
    cc (field-value_of t, bits-bytes_from n (drop 8 l) (omega arith), take-append-drop 8 l)

-- whole bytes of bits are the bits of their bytes
pub bits_of-bytes_of : (l : List Bool) → length l % 8 ≡ 0 → bits_of (bytes_of l) ≡ l
unfolding bytes_of
bits_of-bytes_of l h = bits-bytes_from (length l / 8) l (omega arith)

pub bytes_from-bits : (s : List ℕ) → ((i : ℕ) → get_or s i 0 < 2 ^ 8) → bytes_from (length s) (bits_of s) ≡ s
unfolding bytes_from bits_of
bytes_from-bits [] h = refl
bytes_from-bits (b ∷ s) h =
    let f = length-field 8 b in
    cc (take_at (field 8 b) (bits_of s) 8 f, value_of-field 8 b, mod-eq_of_lt (h 0), drop_at (field 8 b) (bits_of s) 8 f, bytes_from-bits s (λ i. h (suc i)))

-- and bytes are the bytes of their bits
pub bytes_of-bits_of : (s : List ℕ) → ((i : ℕ) → get_or s i 0 < 2 ^ 8) → bytes_of (bits_of s) ≡ s
unfolding bytes_of
bytes_of-bits_of s h =
    let f : length (bits_of s) / 8 ≡ length s = omega (arith, length-bits_of s) in
    cc (bytes_from-bits s h)

-- ---- the test of a filled end on bytes

-- nothing is left
pub filled-past : (s : List ℕ) (p : ℕ) → length s ≤ p / 8 → true ≡ filled (bits_of s) p
unfolding filled value_of
filled-past s p h =
    let e = length-bits_of s in
    sym (rw (lt-ltb (length (bits_of s)) (p + 8) (omega arith), drop_of_length-le (bits_of s) {i = p} (omega arith)))

-- a whole byte is left
pub filled_more : (s : List ℕ) (p : ℕ) → p + 8 ≤ 8 * length s → false ≡ filled (bits_of s) p
unfolding filled
filled_more s p h =
    sym (rw (le-ltb (length (bits_of s)) (p + 8) (omega (arith, length-bits_of s))))

-- the last byte's lowest bits are left
pub filled-last : (s : List ℕ) (p : ℕ) → 0 < p % 8 → length s ≡ p / 8 + 1 → get_or s (p / 8) 0 < 2 ^ 8
    → eqb (get_or s (p / 8) 0 % 2 ^ (8 - p % 8)) 0 ≡ filled (bits_of s) p
unfolding filled bits_of
filled-last s p hr hl hb =
    let q = p / 8 in
    let r = p % 8 in
    let b = get_or s q 0 in
    let e = length-bits_of s in
    let a : p ≡ 8 * q + r = omega arith in
    let k = length-field 8 b in
    let d : drop q s ≡ b ∷ [] = cc (drop-cons s q 0 (omega arith), drop_of_length-le s {i = suc q} (omega arith)) in
    let f : drop p (bits_of s) ≡ drop r (field 8 b) = cc (drop-drop r (8 * q) (bits_of s), bits_of-drop q s, append-nil (field 8 b)) in
    let all = take_all (8 - r) (drop r (field 8 b)) (rw length-drop (omega arith)) in
    let v : value_of (drop p (bits_of s)) ≡ b % 2 ^ (8 - r) =
    cc (all, value-part (field 8 b) r (8 - r) 0 (omega arith), div-one (value_of (field 8 b)), value_of-field 8 b, mod-eq_of_lt hb) in
    rw (lt-ltb (length (bits_of s)) (p + 8) (omega arith), v)

pub length-bytes_from : (n : ℕ) (l : List Bool) → length (bytes_from n l) ≡ n
unfolding bytes_from
length-bytes_from zero l = refl
length-bytes_from (suc n) l = ap suc (length-bytes_from n (drop 8 l))
