-- Fields at a position of a list of bits: one law each way for every width, and what writing leaves. Assumes nothing.
use Prim.Native.Nat.{ℕ, zero, suc, ◌+◌, ◌-◌, ◌*◌, ◌/◌, ◌^◌, ◌<◌, ◌≤◌}
use mathlib.Core.Path.{◌≡◌, refl, sym, ap, ◌∙◌}
use mathlib.Core.Bool.{Bool, true, false, and-false}
use mathlib.Core.List.{List, [], ◌∷◌, ◌++◌, append_assoc}
use native.Mathlib.Nat.{mod-eq_of_lt, add_assoc}
use native.Mathlib.Omega.{arith}
use borrow.Table.Steps.{cases}
use borrow.Author.Tests.{le-leb, lt-leb, leb-true, leb-false}
use lib.ListN.{length, get_or, take, drop, length-drop, length-append, take-append-drop}
use lib.Seq.{take_at, drop_at, drop-drop, drop-nil, drop-append-add, take_all, take-take, length-take-le, paste}
use lib.Dec.{leb}
use Rattle.base_laws.proofs.Choice.{both_true}
use Rattle.base_bitstream.specs.Bits.{field, bits_of, value_of}
use Rattle.base_bitstream.specs.Fields.{farthest, put, over, pick, room_for, read_at, number_of, EveryNumber}
use Rattle.base_bitstream.specs.inside.Fields.{Room, written}
use Rattle.std.specs.Prelude.{Some, None}
use Rattle.std.proofs.lemmas.Option.{same_Some, none-some}
use Rattle.base_bitstream.proofs.BitValues.{length-field, value_of-field, field-value_of, value_of-lt, length-bits_of}

-- ---- room

pub room-yes : (bits at n : ℕ) → n ≤ 32 → at ≤ farthest → at + n ≤ bits → room_for bits at n ≡ true
unfolding room_for
room-yes bits at n h g k = rw (le-leb _ _ h, le-leb _ _ g, le-leb _ _ k)

pub room-wide : (bits at n : ℕ) → 32 < n → room_for bits at n ≡ false
unfolding room_for
room-wide bits at n h = rw (lt-leb _ _ h)

pub room-far : (bits at n : ℕ) → farthest < at → room_for bits at n ≡ false
unfolding room_for
room-far bits at n h = rw (lt-leb _ _ h) (and-false (leb n 32))

pub room-short : (bits at n : ℕ) → bits < at + n → room_for bits at n ≡ false
unfolding room_for
room-short bits at n h = rw (lt-leb _ _ h, and-false (leb at farthest)) (and-false (leb n 32))

-- the test on whole bytes
pub room-bytes : (bytes at n : ℕ) → n ≤ 32 → at ≤ farthest → leb ((at + n + 7) / 8) bytes ≡ room_for (8 * bytes) at n
room-bytes bytes at n h g =
    cases (leb (at + n) (8 * bytes)) (λ k. let l = leb-true (at + n) (8 * bytes) k in cc (le-leb ((at + n + 7) / 8) bytes (omega arith), room-yes (8 * bytes) at n h g l))
    (λ k. let l = leb-false (at + n) (8 * bytes) k in cc (lt-leb ((at + n + 7) / 8) bytes (omega arith), room-short (8 * bytes) at n l))

pub room_back : (bits at n : ℕ) → room_for bits at n ≡ true → Room bits at n
unfolding room_for
room_back bits at n e =
    let p = both_true (leb n 32) _ e in
    let q = both_true (leb at farthest) (leb (at + n) bits) p.1 in
    record { width = leb-true _ _ p.0; near = leb-true _ _ q.0; within = leb-true _ _ q.1 }

-- ---- reading

-- where a field stands, it is read, and what follows it follows
pub read_here : (l : List Bool) (at n v : ℕ) (rest : List Bool) → length l ≤ farthest → 0 < n → n ≤ 32 → v < 2 ^ n → drop at l ≡ put n v rest
    → (read_at l at n ≡ Some (v, at + n)) × (drop (at + n) l ≡ rest)
unfolding read_at
read_here l at n v rest hl hn hw hv e =
    let k = length-field n v in
    let len : length l - at ≡ length (field n v) + length rest = cc (length-drop at l, length-append (field n v) rest) in
    let w : value_of (take n (drop at l)) ≡ v = cc (take_at (field n v) rest n k, value_of-field n v, mod-eq_of_lt hv) in
    (rw (room-yes (length l) at n hw (omega arith) (omega arith), w), cc (drop-drop n at l, drop_at (field n v) rest n k))

-- what is read stands there
pub record Read (l : List Bool) (at n v p : ℕ) : Type 0 where
  pub next : p ≡ at + n
  pub room : at + n ≤ length l
  pub small : v < 2 ^ n
  pub value : v ≡ value_of (take n (drop at l))
  pub here : drop at l ≡ put n v (drop p l)

pub read_back : (l : List Bool) (at n v p : ℕ) → read_at l at n ≡ Some (v, p) → Read l at n v p
unfolding read_at
read_back l at n v p e =
    cases (room_for (length l) at n)
    (λ f.
    let h = (room_back (length l) at n f).within in
    let t = take n (drop at l) in
    let r : (value_of t, at + n) ≡ (v, p) = same_Some _ _ (sym (rw f) ∙ e) in
    let vv : value_of t ≡ v = ap (λ (x : ℕ × ℕ). x.0) r in
    let pp : p ≡ at + n = sym (ap (λ (x : ℕ × ℕ). x.1) r) in
    let k : length t ≡ n = length-take-le n (drop at l) (rw length-drop (omega arith)) in
    record { next = pp; room = h; value = sym vv; small = rw (k, vv) at (value_of-lt t); here = cc (take-append-drop n (drop at l), field-value_of t, drop-drop n at l) })
    (λ f. absurd (none-some (v, p) (sym (rw f) ∙ e)))

-- ---- writing

module _ (l : List Bool) (at : ℕ) (b : List Bool) (h : at + length b ≤ length l) where
  head : length (take at l) ≡ at
  head = length-take-le at l (omega arith)

  pub take-over : take at (over l at b) ≡ take at l
  take-over = take_at (take at l) (b ++ drop (at + length b) l) at head

  -- what was written stands there, and what stood after it stays
  pub drop-over : drop at (over l at b) ≡ b ++ drop (at + length b) l
  drop-over = drop_at (take at l) (b ++ drop (at + length b) l) at head

  pub length_over : length (over l at b) ≡ length l
  length_over = omega (arith, length-append (take at l) (b ++ drop (at + length b) l), head, length-append b (drop (at + length b) l), length-drop (at + length b) l)

  -- two writes, one after the other, are one
  pub over-over : (c : List Bool) → at + length b + length c ≤ length l → over (over l at b) (at + length b) c ≡ over l at (b ++ c)
  over-over c g =
      let n = at + length b in
      let x = take at l ++ b in
      let rest = drop (n + length c) l in
      let k : length x ≡ n = cc (length-append (take at l) b, head) in
      let d : drop (n + length c) (over l at b) ≡ rest = cc (append_assoc (take at l) b (drop n l), drop-append-add x (drop n l) (length c), drop-drop (length c) n l) in
      let t : take n (over l at b) ≡ x = cc (append_assoc (take at l) b (drop n l), take_at x (drop n l) n k) in
      cc (append_assoc (take at l) b (c ++ rest), append_assoc b c rest, add_assoc at (length b) (length c), length-append b c)

  -- a position past what was written sees what stood there
  pub past-over : (j : ℕ) → at + length b ≤ j → drop j (over l at b) ≡ drop j l
  past-over j hj =
      let n = at + length b in
      let x = take at l ++ b in
      let i = j - n in
      let k : length x ≡ n = cc (length-append (take at l) b, head) in
      let e : j ≡ length x + i = omega arith in
      let f : n + i ≡ j = omega arith in
      cc (append_assoc (take at l) b (drop n l), drop-append-add x (drop n l) i, drop-drop i n l)

  -- and a position before it too
  pub before-over : (j : ℕ) → j ≤ at → take j (over l at b) ≡ take j l
  before-over j hj = cc (take-take j at (over l at b) hj, take-over, take-take j at l hj)

-- where a field has room, writing lays it over what stood there
pub written_over : (l : List Bool) (at n v : ℕ) → n ≤ 32 → at ≤ farthest → at + n ≤ length l → written l at n v ≡ over l at (field n v)
unfolding written
written_over l at n v h g k = rw (room-yes (length l) at n h g k)

pub paste-over : (l : List Bool) (at : ℕ) (b : List Bool) (n : ℕ) → length b ≡ n → paste l at b n ≡ over l at b
paste-over l at b n e = cc (append_assoc (take at l) (take n b) (drop (at + n) l), take_all n b (omega arith))

-- ---- bits give back the bytes

pub bits_of-inj : (s t : List ℕ) → ((i : ℕ) → get_or s i 0 < 2 ^ 8) → ((i : ℕ) → get_or t i 0 < 2 ^ 8) → bits_of s ≡ bits_of t → s ≡ t
unfolding bits_of
bits_of-inj [] [] hs ht e = refl
bits_of-inj [] (b ∷ t) hs ht e = absurd (omega (arith, ap length e, length-append (field 8 b) (bits_of t), length-field 8 b))
bits_of-inj (a ∷ s) [] hs ht e = absurd (omega (arith, ap length e, length-append (field 8 a) (bits_of s), length-field 8 a))
bits_of-inj (a ∷ s) (b ∷ t) hs ht e =
    let f : field 8 a ≡ field 8 b = cc (take_at (field 8 a) (bits_of s) 8 (length-field 8 a), take_at (field 8 b) (bits_of t) 8 (length-field 8 b)) in
    let r : bits_of s ≡ bits_of t = cc (drop_at (field 8 a) (bits_of s) 8 (length-field 8 a), drop_at (field 8 b) (bits_of t) 8 (length-field 8 b)) in
    let v : a ≡ b = cc (mod-eq_of_lt (hs 0), value_of-field 8 a, value_of-field 8 b, mod-eq_of_lt (ht 0)) in
    cc (bits_of-inj s t (λ i. hs (suc i)) (λ i. ht (suc i)) r)

-- whole bytes from k on
pub bits_of-drop : (k : ℕ) (s : List ℕ) → bits_of (drop k s) ≡ drop (8 * k) (bits_of s)
unfolding bits_of
bits_of-drop zero s = refl
bits_of-drop (suc k) [] = sym (drop-nil (8 * suc k))
bits_of-drop (suc k) (b ∷ s) =
    let e : 8 * suc k ≡ 8 + 8 * k = omega arith in
    cc (bits_of-drop k s, length-field 8 b, drop-append-add (field 8 b) (bits_of s) (8 * k))

-- ---- the two ways through reading and writing, on bytes

-- the room that the test on whole bytes found
pub room-found : {b : Bool} (s : List ℕ) (at n : ℕ) → b ≡ room_for (8 * length s) at n → b ≡ true → Room (8 * length s) at n
room-found s at n e f = room_back (8 * length s) at n (sym e ∙ f)

pub read_none : {b : Bool} (s : List ℕ) (at n : ℕ) → b ≡ room_for (8 * length s) at n → b ≡ false → None ≡ read_at (bits_of s) at n
unfolding read_at
read_none s at n e f = sym (rw (length-bits_of s, sym e ∙ f))

pub read_some : {b : Bool} (s : List ℕ) (at n v : ℕ) → b ≡ room_for (8 * length s) at n → b ≡ true → v ≡ value_of (take n (drop at (bits_of s)))
    → Some (v, at + n) ≡ read_at (bits_of s) at n
unfolding read_at
read_some s at n v e f g = sym (rw (length-bits_of s, sym e ∙ f, g))

pub write-none : {b : Bool} (s : List ℕ) (at n v : ℕ) → b ≡ room_for (8 * length s) at n → b ≡ false → bits_of s ≡ written (bits_of s) at n v
unfolding written
write-none s at n v e f = sym (rw (length-bits_of s, sym e ∙ f))

pub write-some : {b : Bool} (s t : List ℕ) (at n v : ℕ) → b ≡ room_for (8 * length s) at n → b ≡ true → bits_of t ≡ over (bits_of s) at (field n v)
    → bits_of t ≡ written (bits_of s) at n v
unfolding written
write-some s t at n v e f g = g ∙ sym (rw (length-bits_of s, sym e ∙ f))

pub every-number : EveryNumber
unfolding read_at
every-number l at n = go (room_for (length l) at n)
  where
    go : (b : Bool) → number_of (pick b (Some (value_of (take n (drop at l)), at + n)) None) ≡ pick b 0 1
    go true = refl
    go false = refl
