-- The 16 bits of a sample; a checksum over samples.
use Rattle.std.proofs.Common.{◌≡◌, ℕ, suc, ◌+◌, ◌-◌, ◌*◌, ◌%◌, ◌<◌, ◌≤◌, List, length, get_or, drop, ℤ, pos, negsuc, sym, refl, ap, ◌∙◌, add-one, arith, drop_of_length-le, drop-cons, to_z-of_z, w16, SFits, to_z, of_z}
use Rattle.program_io.specs.Bytes.{sample_bits, checksum}

pub bits_are : (z : ℤ) → of_z w16 z ≡ sample_bits z
unfolding sample_bits
bits_are (pos n) = refl
bits_are (negsuc n) = let e : 65536 - suc n ≡ 65535 - n = omega arith in e

-- a sample as it is read from a slice
pub bits-read : {z : ℤ} → SFits w16 z → sample_bits (to_z w16 (of_z w16 z)) ≡ sample_bits z
bits-read f = ap sample_bits (to_z-of_z f)

-- a loop over samples: those that are left give what all give
pub record Summing (sum : ℕ) (s : List ℤ) (n i : ℕ) : Type 0 where
  pub rest : checksum n (drop i s) ≡ checksum sum s

pub sums-start : (sum : ℕ) (s : List ℤ) → Summing sum s sum 0
sums-start sum s = record { rest = refl }

pub sums-end : {sum n i : ℕ} {s : List ℤ} → Summing sum s n i → length s ≤ i → n ≡ checksum sum s
unfolding checksum
sums-end {n = n} {s = s} d h = sym (ap (checksum n) (drop_of_length-le s h)) ∙ d.rest

pub sums-again : {sum n i v : ℕ} {s : List ℤ} → Summing sum s n i → i < length s → v ≡ sample_bits (get_or s i (pos 0))
    → Summing sum s (n % 67108864 * 61 + v) (i + 1)
unfolding checksum
sums-again {n = n} {i} {v} {s} d h e =
    record {
      rest =
          (λ j. checksum (n % 67108864 * 61 + e j) (drop (add-one i j) s))
          ∙ sym (ap (checksum n) (drop-cons s i (pos 0) h)) ∙ d.rest;
    }
