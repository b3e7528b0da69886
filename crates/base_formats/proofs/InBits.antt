-- Fields as bits: where they stand, and what they are read as. Assumes nothing.
use Prim.Native.Nat.{ℕ, ◌+◌, ◌-◌, ◌≤◌}
use mathlib.Core.Path.{◌≡◌, refl, sym, ap, ap₂, ◌∙◌}
use mathlib.Core.Bool.{Bool}
use mathlib.Core.List.{List, [], ◌∷◌, ◌++◌, append_assoc}
use native.Mathlib.Nat.{mod-eq_of_lt, add_assoc}
use native.Mathlib.Omega.{arith}
use lib.ListN.{length, take, drop, length-append, length-drop}
use lib.Seq.{take_at, drop_at, drop-drop}
use Rattle.base_bitstream.specs.Bits.{field, value_of}
use Rattle.base_bitstream.specs.Fields.{put, farthest, read_at}
use Rattle.std.specs.Prelude.{Some}
use Rattle.base_bitstream.proofs.BitValues.{length-field, value_of-field}
use Rattle.base_bitstream.proofs.Fields.{room-yes, read_back}
use Rattle.base_formats.specs.Format.{bit_source, Field, of, field_bits}
use Rattle.base_formats.specs.inside.Lengths.{widths}
use Rattle.base_formats.proofs.Gives.{Fits, Gives, Bounded}

-- the width of every field holds its number
abbrev pub Small : List Field → Type 0
Small [] = Unit
Small (of w v ∷ fs) = Fits w v × Small fs

-- ---- reading them

drop-field : (l : List Bool) (at n v : ℕ) (rest : List Bool) → drop at l ≡ put n v rest → drop (at + n) l ≡ rest
drop-field l at n v rest e = sym (drop-drop n at l) ∙ ap (drop n) e ∙ drop_at (field n v) rest n (length-field n v)

read-near : (l : List Bool) (at n v : ℕ) (rest : List Bool) → at ≤ farthest → Fits n v → drop at l ≡ put n v rest → read_at l at n ≡ Some (v, at + n)
unfolding read_at
read-near l at n v rest near f e =
    let len : length l - at ≡ n + length rest = sym (length-drop at l) ∙ ap length e ∙ length-append (field n v) rest ∙ ap (λ (k : ℕ). k + length rest) (length-field n v) in
    let h : at + n ≤ length l = omega (arith, f.some) in
    let t : take n (drop at l) ≡ field n v = ap (take n) e ∙ take_at (field n v) rest n (length-field n v) in
    let w : value_of (take n (drop at l)) ≡ v = ap value_of t ∙ value_of-field n v ∙ mod-eq_of_lt f.small in
    rw (room-yes (length l) at n f.most near h, w)

pub bits-bounded : (l : List Bool) → Bounded (bit_source l)
unfolding bit_source
bits-bounded l at v p e = (read_back l at 32 v p e).small

-- where the bits of fields stand, the fields are given, and what follows them follows
pub bits-there : (l : List Bool) (fs : List Field) (at p : ℕ) (rest : List Bool) → p ≤ farthest → at + widths fs ≡ p → drop at l ≡ field_bits fs rest
    → Gives (bit_source l) at fs p × (drop p l ≡ rest)
unfolding bit_source field_bits
bits-there l [] at p rest near e d = let q : at ≡ p = omega arith in (q, ap (λ (x : ℕ). drop x l) (sym q) ∙ d)
bits-there l (of w v ∷ fs) at p rest near e d =
    let n : at ≤ farthest = omega arith in
    let k = bits-there l fs (at + w) p rest near (omega arith) (drop-field l at w v (field_bits fs rest) d) in
    ((λ f. record { next = at + w; reads = read-near l at w v (field_bits fs rest) n f d; then = k.0 }), k.1)

-- fields that are given stand there as bits
pub record BitsBack (l : List Bool) (fs : List Field) (at p : ℕ) : Type 0 where
  pub next : p ≡ at + widths fs
  pub room : at ≤ length l → p ≤ length l
  pub here : drop at l ≡ field_bits fs (drop p l)

pub bits_back : (l : List Bool) (fs : List Field) (at p : ℕ) → Small fs → Gives (bit_source l) at fs p → BitsBack l fs at p
unfolding bit_source field_bits
bits_back l [] at p h g = record { next = omega arith; room = λ h. omega arith; here = ap (λ (x : ℕ). drop x l) g }
bits_back l (of w v ∷ fs) at p h f =
    let g = f h.0 in
    let r = read_back l at w v g.next g.reads in
    let k = bits_back l fs g.next p h.1 g.then in
    record {
      next = omega (arith, k.next, r.next);
      room = λ h. k.room (omega (arith, r.next, r.room));
      here = r.here ∙ ap (put w v) k.here;
    }

-- ---- lengths

pub length-bits : (fs : List Field) (rest : List Bool) → length (field_bits fs rest) ≡ widths fs + length rest
unfolding field_bits
length-bits [] rest = omega arith
length-bits (of w v ∷ fs) rest = length-append (field w v) (field_bits fs rest) ∙ ap₂ (λ (x y : ℕ). x + y) (length-field w v) (length-bits fs rest) ∙ sym (add_assoc w (widths fs) (length rest))

pub bits-append : (fs : List Field) (a b : List Bool) → field_bits fs a ++ b ≡ field_bits fs (a ++ b)
unfolding field_bits
bits-append [] a b = refl
bits-append (of w v ∷ fs) a b = append_assoc (field w v) (field_bits fs a) b ∙ ap (put w v) (bits-append fs a b)
