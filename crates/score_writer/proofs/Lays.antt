-- Bits laid behind one another into lent bytes. Assumes nothing.
use Prim.Native.Nat.{ℕ, zero, suc, ◌+◌, ◌*◌, ◌/◌, ◌^◌, ◌<◌, ◌≤◌}
use mathlib.Core.Path.{◌≡◌, refl, sym, ap, ◌∙◌}
use mathlib.Core.Bool.{Bool, false}
use mathlib.Core.List.{List, ◌++◌}
use native.Mathlib.Nat.{zero-div, add-zero, zero-add}
use native.Mathlib.Omega.{arith}
use borrow.Author.Tests.{le-leb}
use lib.ListN.{length, get_or, take, drop, replicate, length-append, length-replicate, take-append-drop}
use lib.Seq.{take_at}
use Rattle.base_bitstream.specs.Bits.{bits_of, field, bit}
use Rattle.base_bitstream.specs.Fields.{over, farthest}
use Rattle.base_bitstream.specs.inside.Fields.{written}
use Rattle.base_bitstream.specs.Filling.{missing, filled_up, bytes_of}
use Rattle.base_bitstream.proofs.BitValues.{length-bits_of, length-field}
use Rattle.base_bitstream.proofs.Fields.{over-over, written_over}
use Rattle.base_bitstream.proofs.Filling.{length-filled_up, bytes_of-bits_of, length-bytes_from}
use Rattle.base_bitstream.proofs.Window.{bits_of-take, bytes_after, below-take}
use Rattle.score_line.specs.declared.Line.{Line}
use Rattle.score_line.specs.declared.LineRead.{LineRead}
use Rattle.score_line_writer.specs.Writing.{line_bits, bits_fit, line_over, past_line, LineWritten}
use Rattle.score_writer.specs.Writing.{lines_bits}
use Rattle.score_writer.specs.Slots.{slot_read, area_lines}
use Rattle.score_writer.specs.inside.Laid.{Laid, RoomAt}
use Rattle.score_writer.proofs.Area.{bits-more, length_more, bits-grow}

-- ---- one behind the other

laid_then : (a x y : List Bool) (at p q : ℕ) (b c : List Bool) → Laid a at b x p → Laid x p c y q → at + length b + length c ≤ length a → Laid a at (b ++ c) y q
laid_then a x y at p q b c f g h =
    record { past = omega (arith, f.past, g.past, length-append b c); stands = cc (g.stands, f.stands, f.past, over-over a at b (omega arith) c h) }

pub line-laid : (old new : List Bool) (at p : ℕ) (l : Line) → at + length (line_bits l) ≤ farthest → at + length (line_bits l) ≤ length old → LineWritten old at l new p → Laid old at (line_bits l) new p
unfolding past_line line_over bits_fit
line-laid old new at p l h k w =
    let n = at + length (line_bits l) in
    record { past = w.past ∙ rw (le-leb n farthest h, le-leb n (length old) k); stands = w.leaves ∙ rw (le-leb n farthest h, le-leb n (length old) k) }

-- ---- the lines of an area

module _ (area : List ℕ) (n : ℕ) (first : List ℕ) (start : ℕ) where
  pub record Laying (s : List ℕ) (p i : ℕ) : Type 0 where
    pub upto : i ≤ n
    pub same : length s ≡ length first
    pub laid : Laid (bits_of first) start (lines_bits (area_lines area i 0)) (bits_of s) p

  pub lay-start : Laying first start 0
  unfolding lines_bits area_lines
  lay-start =
      let z = add-zero start in
      record { upto = omega arith; same = refl; laid = record { past = sym z; stands = cc (take-append-drop start (bits_of first)) } }

  pub lay-more : (s t : List ℕ) (p q i : ℕ) {r : LineRead} → RoomAt (8 * length first) start (length (lines_bits (area_lines area n 0))) → Laying s p i → i < n
      → r ≡ slot_read area i → length t ≡ length s → LineWritten (bits_of s) p r.line (bits_of t) q → Laying t q (i + 1)
  lay-more s t p q i {r} h c l e k w =
      let x = (slot_read area i).line in
      let b = lines_bits (area_lines area i 0) in
      let g : length (lines_bits (area_lines area (i + 1) 0)) ≤ length (lines_bits (area_lines area n 0)) = bits-grow area (i + 1) n (omega arith) in
      let m = length_more area i in
      let bs = length-bits_of s in
      let bf = length-bits_of first in
      let d = line-laid (bits_of s) (bits_of t) p q x (omega (arith, c.laid.past, h.near)) (omega (arith, c.laid.past, h.within, c.same)) (rw e at w) in
      record {
        upto = omega arith;
        same = k ∙ c.same;
        laid = rw bits-more (laid_then (bits_of first) (bits_of s) (bits_of t) start p q b (line_bits x) c.laid d (omega (arith, h.within)));
      }

  pub lay-end : (s : List ℕ) (p i : ℕ) → Laying s p i → n ≤ i → Laid (bits_of first) start (lines_bits (area_lines area n 0)) (bits_of s) p
  lay-end s p i c h = let e : i ≡ n = omega (arith, c.upto) in rw e at c.laid

-- ---- zero bits to a whole byte

field-zero : (n : ℕ) → field n 0 ≡ replicate n false
unfolding field bit
field-zero zero = refl
field-zero (suc n) = rw (zero-div (2 ^ n), field-zero n)

pub byte-filled : (s t : List ℕ) (p : ℕ) → RoomAt (8 * length s) p 0 → bits_of t ≡ written (bits_of s) p (missing p) 0 → bits_of t ≡ over (bits_of s) p (replicate (missing p) false)
byte-filled s t p h e =
    let k = length-bits_of s in
    e ∙ written_over (bits_of s) p (missing p) 0 (omega arith) (omega (arith, h.near)) (omega (arith, h.within)) ∙ ap (over (bits_of s) p) (field-zero (missing p))

-- ---- a first field, what follows it, and zero bits to a whole byte

module _ (first s t : List ℕ) (w v p : ℕ) (body : List Bool) (small : w ≤ 32) (room : RoomAt (8 * length first) w (length body))
    (wrote : bits_of s ≡ written (bits_of first) 0 w v) (same : length s ≡ length first) where
  head-laid : Laid (bits_of first) 0 (field w v) (bits_of s) w
  head-laid =
      let k = length-bits_of first in
      record { past = cc (length-field w v, zero-add w); stands = wrote ∙ written_over (bits_of first) 0 w v small (omega arith) (omega (arith, room.within)) }

  pub body-room : RoomAt (8 * length s) w (length body)
  body-room = record { near = room.near; within = omega (arith, room.within) }

  module _ (laid : Laid (bits_of s) w body (bits_of t) p) (kept : length t ≡ length s) where
    pub end-room : RoomAt (8 * length t) p 0
    end-room = record { near = omega (arith, room.near, laid.past); within = omega (arith, room.within, laid.past) }

    pub whole-laid : (u : List ℕ) → bits_of u ≡ over (bits_of t) p (replicate (missing p) false) → bits_of u ≡ over (bits_of first) 0 (filled_up (field w v ++ body))
    unfolding filled_up
    whole-laid u e =
        let l = field w v ++ body in
        let k = length-bits_of first in
        let lw = length-field w v in
        let ln = length-append (field w v) body in
        let a = laid_then (bits_of first) (bits_of s) (bits_of t) 0 w p (field w v) body head-laid laid (omega (arith, room.within)) in
        let q : p ≡ length l = omega (arith, laid.past) in
        let z = replicate (missing p) false in
        let lz : length z ≡ missing p = length-replicate (missing p) false in
        cc (a.stands, zero-add (length l), over-over (bits_of first) 0 l (omega (arith, room.within)) z (omega (arith, room.within)))

-- ---- bits that fill bytes, as bytes

pub length-bytes : (b : List Bool) → length (bytes_of (filled_up b)) ≡ (length b + 7) / 8
unfolding bytes_of
length-bytes b = length-bytes_from (length (filled_up b) / 8) (filled_up b) ∙ ap (λ (j : ℕ). j / 8) (length-filled_up b) ∙ omega arith

pub laid-bytes : (s t : List ℕ) (b : List Bool) → ((i : ℕ) → get_or s i 0 < 2 ^ 8) → ((i : ℕ) → get_or t i 0 < 2 ^ 8) → (length b + 7) / 8 ≤ length s
    → bits_of t ≡ over (bits_of s) 0 (filled_up b) → t ≡ bytes_of (filled_up b) ++ drop (length (bytes_of (filled_up b))) s
laid-bytes s t b hs ht h e =
    let f = filled_up b in
    let k = length (bytes_of f) in
    let k8 : length f ≡ 8 * k = omega (arith, length-filled_up b, length-bytes b) in
    let d = bytes_after s t 0 f k hs ht (omega (arith, length-bytes b)) (omega arith) e in
    let g : bits_of (take k t) ≡ f = cc (bits_of-take k t, take_at f (drop (0 + length f) (bits_of s)) (8 * k) k8) in
    cc (take-append-drop k t, bytes_of-bits_of (take k t) (below-take (2 ^ 8) k t (omega arith) ht))
