-- A name at a position of a table's bits, and numbers there. Assumes nothing.
use Prim.Native.Nat.{ℕ, suc, ◌+◌, ◌-◌, ◌*◌, ◌/◌, ◌^◌, ◌<◌, ◌≤◌}
use mathlib.Core.Path.{◌≡◌, refl, sym, ap, ◌∙◌}
use mathlib.Core.Bool.{Bool, true, true≢false}
use mathlib.Core.List.{List, ◌∷◌, ◌++◌}
use native.Mathlib.Omega.{arith}
use borrow.Author.Tests.{le-leb, lt-leb, le-ltb, lt-ltb, leb-true, leb-false, ltb-true, ltb-false}
use borrow.Table.Steps.{cases}
use lib.ListN.{length, take, drop, length-drop}
use lib.Seq.{drop-drop, length-take-le}
use lib.Dec.{leb, ltb}
use Rattle.base_bitstream.proofs.Filling.{length-bytes_from}
use Rattle.base_bitstream.specs.Bits.{bits_of}
use Rattle.base_bitstream.specs.inside.Fields.{Room}
use Rattle.base_bitstream.specs.Filling.{bytes_from}
use Rattle.base_bitstream.specs.Fields.{read_at}
use Rattle.std.specs.Prelude.{Option, Some, None}
use Rattle.std.proofs.lemmas.Option.{same_Some, none-some}
use Rattle.base_bitstream.proofs.BitValues.{length-bits_of, value_of-lt}
use Rattle.base_bitstream.proofs.Fields.{room-yes}
use Rattle.symbol_names.specs.Form.{Names, length_bits, list_bytes}
use Rattle.symbol_names.specs.inside.Reading.{Read, got, cut, and_then, number_from, stretch_from, name_from, names_from}
use Rattle.symbol_unpacker.specs.Passes.{number_at, listed, is_whole, entry_at}

-- ---- the tests and reads of the code

pub bytes-end : (bytes end : ℕ) → ltb bytes ((end + 8 - 1) / 8) ≡ ltb (8 * bytes) end
bytes-end bytes end =
    cases (ltb (8 * bytes) end) (λ h. let l = ltb-true (8 * bytes) end h in cc (lt-ltb bytes ((end + 8 - 1) / 8) (omega arith)))
    (λ h. let l = ltb-false (8 * bytes) end h in cc (le-ltb bytes ((end + 8 - 1) / 8) (omega arith)))

-- a field that has room is read
there : (s : List ℕ) (at n : ℕ) → Room (8 * length s) at n → read_at (bits_of s) at n ≡ Some (number_at (bits_of s) at n, at + n)
unfolding read_at number_at
there s at n h = rw (length-bits_of s, room-yes (8 * length s) at n h.width h.near h.within)

pub number-there : {g : Option (ℕ × ℕ)} {v p : ℕ} (s : List ℕ) (at n : ℕ) → Room (8 * length s) at n → g ≡ read_at (bits_of s) at n → g ≡ Some (v, p)
    → v ≡ number_at (bits_of s) at n
number-there s at n h e f = ap (λ (x : ℕ × ℕ). x.0) (same_Some _ _ (sym f ∙ e ∙ there s at n h))

pub number_short : {g : Option (ℕ × ℕ)} {v : ℕ} (s : List ℕ) (at n : ℕ) → Room (8 * length s) at n → g ≡ read_at (bits_of s) at n → g ≡ None → v ≡ number_at (bits_of s) at n
number_short s at n h e f = absurd (none-some _ (sym f ∙ e ∙ there s at n h))

pub number-below : (s : List ℕ) (at n : ℕ) → Room (8 * length s) at n → number_at (bits_of s) at n < 2 ^ n
unfolding number_at
number-below s at n h =
    let t = take n (drop at (bits_of s)) in
    let l = length-bits_of s in
    let k : length t ≡ n = length-take-le n (drop at (bits_of s)) (rw length-drop (omega (arith, h.within))) in
    rw k at (value_of-lt t)

-- ---- one name

abbrev pub size : List Bool → ℕ → ℕ
size bits at = number_at bits at length_bits

abbrev pub past : List Bool → ℕ → ℕ
past bits at = at + length_bits + 8 * size bits at

module _ (bits : List Bool) (at : ℕ) where
  length_cut : length bits < at + length_bits → name_from (drop at bits) ≡ cut
  unfolding name_from number_from
  length_cut h = let d = length-drop at bits in rw (lt-leb length_bits (length (drop at bits)) (omega arith))

  module _ (h : at + length_bits ≤ length bits) where
    length-read : number_from length_bits (drop at bits) ≡ got (size bits at) (drop (at + length_bits) bits)
    unfolding number_from number_at
    length-read = let d = length-drop at bits in rw (le-leb length_bits (length (drop at bits)) (omega arith), drop-drop length_bits at bits)

    name-there : past bits at ≤ length bits → name_from (drop at bits) ≡ got (bytes_from (size bits at) (drop (at + length_bits) bits)) (drop (past bits at) bits)
    unfolding name_from stretch_from
    name-there g =
        let e = length-drop (at + length_bits) bits in
        rw (length-read, le-leb (8 * size bits at) (length (drop (at + length_bits) bits)) (omega arith), drop-drop (8 * size bits at) (at + length_bits) bits)

    name-cut : length bits < past bits at → name_from (drop at bits) ≡ cut
    unfolding name_from stretch_from
    name-cut g = let e = length-drop (at + length_bits) bits in rw (length-read, lt-leb (8 * size bits at) (length (drop (at + length_bits) bits)) (omega arith))

-- ---- so many names, the first of them at a position

abbrev pub behind : Read (List ℕ) → ℕ → Read Names
behind m k = and_then m (λ name r. and_then (names_from k r) (λ names q. got (name ∷ names) q))

pub names-cut-length : (bits : List Bool) (k at : ℕ) → length bits < at + length_bits → names_from (suc k) (drop at bits) ≡ cut
unfolding names_from
names-cut-length bits k at h = ap (λ (m : Read (List ℕ)). behind m k) (length_cut bits at h)

pub names-cut : (bits : List Bool) (k at : ℕ) → at + length_bits ≤ length bits → length bits < past bits at → names_from (suc k) (drop at bits) ≡ cut
unfolding names_from
names-cut bits k at h g = ap (λ (m : Read (List ℕ)). behind m k) (name-cut bits at h g)

pub names-next : (bits : List Bool) (k at : ℕ) → at + length_bits ≤ length bits → past bits at ≤ length bits
    → names_from (suc k) (drop at bits)
    ≡ and_then (names_from k (drop (past bits at) bits)) (λ names q. got (bytes_from (size bits at) (drop (at + length_bits) bits) ∷ names) q)
unfolding names_from
names-next bits k at h g = ap (λ (m : Read (List ℕ)). behind m k) (name-there bits at h g)

-- whole names: the first stands there, and the others behind it
pub record Next (bits : List Bool) (k at : ℕ) : Type 0 where
  pub opened : at + length_bits ≤ length bits
  pub there : past bits at ≤ length bits
  pub whole : is_whole (names_from k (drop (past bits at) bits)) ≡ true
  pub lists : listed (names_from (suc k) (drop at bits)) ≡ entry_at bits at ++ listed (names_from k (drop (past bits at) bits))

pub next : (bits : List Bool) (k at : ℕ) → is_whole (names_from (suc k) (drop at bits)) ≡ true → Next bits k at
unfolding entry_at list_bytes
next bits k at w =
    cases (leb (at + length_bits) (length bits))
    (λ o.
    let h = leb-true (at + length_bits) (length bits) o in
    cases (leb (past bits at) (length bits))
    (λ t.
    let g = leb-true (past bits at) (length bits) t in
    let e = names-next bits k at h g in
    let m = others (names_from k (drop (past bits at) bits)) (sym (ap is_whole e) ∙ w) in
    record { opened = h; there = g; whole = m.0; lists = ap listed e ∙ m.1 })
    (λ t. none_here (names-cut bits k at h (leb-false (past bits at) (length bits) t))))
    (λ o. none_here (names-cut-length bits k at (leb-false (at + length_bits) (length bits) o)))
  where
    name : List ℕ
    name = bytes_from (size bits at) (drop (at + length_bits) bits)

    none_here : names_from (suc k) (drop at bits) ≡ cut → Next bits k at
    none_here e = absurd (true≢false (sym w ∙ ap is_whole e))

    others : (m : Read Names) → is_whole (and_then m (λ names q. got (name ∷ names) q)) ≡ true
        → (is_whole m ≡ true) × (listed (and_then m (λ names q. got (name ∷ names) q)) ≡ size bits at ∷ (name ++ listed m))
    others (got names q) h = (refl, ap (λ (n : ℕ). n ∷ (name ++ list_bytes names)) (length-bytes_from (size bits at) (drop (at + length_bits) bits)))
    others cut h = absurd (true≢false (sym h))
