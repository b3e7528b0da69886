-- The second pass: a table's names laid into the buffer. Assumes nothing.
use Prim.Native.Nat.{ℕ, zero, suc, ◌+◌, ◌-◌, ◌*◌, ◌^◌, ◌<◌, ◌≤◌}
use mathlib.Core.Path.{◌≡◌, refl, sym, ap, ◌∙◌}
use mathlib.Core.Bool.{Bool, true}
use mathlib.Core.List.{List, ◌++◌, append_assoc}
use native.Mathlib.Omega.{arith}
use native.Mathlib.Nat.{add_assoc}
use native.Mathlib.Numerals.{add-one}
use borrow.Author.Tests.{lt-leb}
use lib.ListN.{length, get_or, set, take, drop, length-drop, length-append, length-set, take-append-drop}
use lib.Seq.{take_at, drop-drop, drop-append-add, length-take-le, take-suc-set, drop-set-lt, paste, paste-zero, paste-suc, take_all, append_snoc}
use Rattle.base_bitstream.proofs.Filling.{length-bytes_from}
use Rattle.base_laws.proofs.Choice.{cond-false}
use Rattle.base_answer.specs.declared.Answer.{Answer}
use Rattle.base_answer.specs.declared.Answer.TheVariants.{Taken, NoRoom}
use Rattle.base_answer.specs.declared.Answered.{Answered}
use Rattle.std.specs.Prelude.{Result, Ok, Err}
use Rattle.base_bitstream.specs.Bits.{bits_of, value_of}
use Rattle.base_bitstream.specs.inside.Fields.{Room}
use Rattle.base_bitstream.specs.Filling.{bytes_from}
use Rattle.base_bitstream.proofs.BitValues.{length-bits_of}
use Rattle.symbol_names.specs.Form.{Names, length_bits, list_bytes, Table, holds, refused}
use Rattle.symbol_names.specs.inside.Reading.{Read, names_from, table_of}
use Rattle.symbol_names.specs.Asking.{Unpacking, unpacking, laid, unpacking_of}
use Rattle.symbol_names.proofs.Asked.{unpacked}
use Rattle.symbol_unpacker.specs.Passes.{number_at, names_of, judgement, listed, is_whole, Fits, laid_at, entry_at, Copies, Entry, NameLaid, UnpacksTo}
use Rattle.symbol_unpacker.proofs.Steps.{size, past, Next, next}
use Rattle.symbol_unpacker.proofs.Measuring.{held}

abbrev answered : Answer → ℕ → Answered ℕ
answered a n = record { left = n; answer = a }

-- ---- bytes laid from a place on

pub length-laid : (to : ℕ) (bytes buffer : List ℕ) → to + length bytes ≤ length buffer → length (laid_at to bytes buffer) ≡ length buffer
unfolding laid_at
length-laid to bytes buffer h =
    let d = drop (to + length bytes) buffer in
    omega (arith, length-take-le to buffer (omega arith), length-drop (to + length bytes) buffer, length-append bytes d, length-append (take to buffer) (bytes ++ d))

-- two stretches, one behind the other, are one
laid-laid : (to : ℕ) (a b buffer : List ℕ) → to + length a ≤ length buffer → laid_at (to + length a) b (laid_at to a buffer) ≡ laid_at to (a ++ b) buffer
unfolding laid_at
laid-laid to a b buffer h =
    let n = to + length a in
    let x = take to buffer ++ a in
    let k : length x ≡ n = cc (length-append (take to buffer) a, length-take-le to buffer (omega arith)) in
    let rest = drop (n + length b) buffer in
    let e = append_assoc (take to buffer) a (drop n buffer) in
    let t = take_at x (drop n buffer) n k in
    let d : drop (n + length b) (x ++ drop n buffer) ≡ rest = cc (drop-append-add x (drop n buffer) (length b), drop-drop (length b) n buffer) in
    cc (append_assoc (take to buffer) a (b ++ rest), append_assoc a b rest, add_assoc to (length a) (length b), length-append a b)

-- ---- the bytes of a name

pub record Copying (table buffer₀ buffer : List ℕ) (at n to j : ℕ) : Type 0 where
  pub copies : Copies table buffer₀ at n to
  pub counted : j ≤ n
  pub same : length buffer ≡ length buffer₀
  pub stands : buffer ≡ paste buffer₀ to (bytes_from n (drop at (bits_of table))) j

pub copy-starts : (table buffer : List ℕ) (at n to : ℕ) → Copies table buffer at n to → Copying table buffer buffer at n to 0
copy-starts table buffer at n to h =
    record { copies = h; counted = omega arith; same = refl; stands = paste-zero buffer to (bytes_from n (drop at (bits_of table))) }

-- a byte among others
byte-among : (n : ℕ) (l : List Bool) (j : ℕ) → j < n → get_or (bytes_from n l) j 0 ≡ value_of (take 8 (drop (8 * j) l))
unfolding bytes_from
byte-among zero l j h = absurd (omega arith)
byte-among (suc n) l zero h = refl
byte-among (suc n) l (suc j) h =
    let e : 8 + 8 * j ≡ 8 * suc j = omega arith in
    cc (byte-among n (drop 8 l) j (omega arith), drop-drop (8 * j) 8 l)

module _ {table buffer₀ buffer : List ℕ} {at n to j : ℕ} (c : Copying table buffer₀ buffer at n to j) where
  abbrev bytes : List ℕ
  bytes = bytes_from n (drop at (bits_of table))

  pub copy-room : j < n → Room (8 * length table) (at + 8 * j) 8
  copy-room h = record { width = omega arith; near = omega (arith, c.copies.near); within = omega (arith, c.copies.there) }

  pub copy-again : {b : ℕ} → j < n → b ≡ number_at (bits_of table) (at + 8 * j) 8 → Copying table buffer₀ (set buffer (to + j) b) at n to (j + 1)
  unfolding number_at
  copy-again {b} h e =
      let k = length-bytes_from n (drop at (bits_of table)) in
      let p = paste-suc buffer₀ to bytes j 0 (omega (arith, c.copies.place)) (omega arith) in
      record {
        copies = c.copies;
        counted = omega arith;
        same = length-set buffer (to + j) b ∙ c.same;
        stands = cc (c.stands, drop-drop (8 * j) at (bits_of table), byte-among n (drop at (bits_of table)) j h, p, add-one j);
      }

  pub copy-ends : n ≤ j → buffer ≡ laid_at to bytes buffer₀
  unfolding laid_at
  copy-ends h =
      let k = length-bytes_from n (drop at (bits_of table)) in
      let e : j ≡ n = omega (arith, c.counted) in
      cc (c.stands, append_assoc (take to buffer₀) (take n bytes) (drop (to + n) buffer₀), take_all n bytes (omega arith))

-- ---- a name

pub entry-room : {table buffer : List ℕ} {at to : ℕ} → Entry table buffer at to → Room (8 * length table) at 4
entry-room h = record { width = omega arith; near = omega (arith, h.near); within = h.opened }

pub entry-copies : {table buffer : List ℕ} {at to n : ℕ} (x : ℕ) → Entry table buffer at to → (n ≡ number_at (bits_of table) at 4) × (n < 2 ^ 4)
    → Copies table (set buffer to x) (at + 4) n (to + 1)
entry-copies {table} {buffer} {at} {to} {n} x h e =
    record {
      near = omega (arith, h.near, e.1);
      there = omega (arith, h.there, e.0);
      place = rw (length-set buffer to x) (omega (arith, h.place, e.0));
    }

pub entry-laid : {table buffer new : List ℕ} {at to n : ℕ} → Entry table buffer at to → (n ≡ number_at (bits_of table) at 4) × (n < 2 ^ 4)
    → new ≡ laid_at (to + 1) (bytes_from n (drop (at + 4) (bits_of table))) (set buffer to n)
    → NameLaid table buffer new at to n
unfolding entry_at laid_at
entry-laid {table} {buffer} {new} {at} {to} {n} h e f =
    let s = bytes_from n (drop (at + 4) (bits_of table)) in
    let m : to < length buffer = omega (arith, h.place) in
    let k : to + 1 + length s ≡ to + suc (length s) = omega arith in
    let d = drop-set-lt (to + 1 + length s) buffer to n (omega arith) in
    record {
      stands = cc (add-one to, take-suc-set buffer to n m, d, append_snoc (take to buffer) n (s ++ drop (to + suc (length s)) buffer), e.0);
      size = e.0;
      short = e.1;
    }

-- ---- all names

pub record Laying (table : List ℕ) (count : ℕ) (buffer₀ buffer : List ℕ) (at to i : ℕ) : Type 0 where
  pub counted : i ≤ count
  pub few : count < 2 ^ 16
  pub near : at ≤ 16 + 124 * i
  pub far : to ≤ 16 * i
  pub same : length buffer ≡ length buffer₀
  pub whole : is_whole (names_from (count - i) (drop at (bits_of table))) ≡ true
  pub room : to + length (listed (names_from (count - i) (drop at (bits_of table)))) ≤ length buffer
  pub stands : laid_at to (listed (names_from (count - i) (drop at (bits_of table)))) buffer ≡ laid (listed (names_of table count)) buffer₀

pub lay-starts : (table : List ℕ) (count : ℕ) (buffer : List ℕ) → Fits table count (length buffer) → Laying table count buffer buffer 16 0 0
unfolding names_of laid laid_at
lay-starts table count buffer h =
    let names = names_from count (drop 16 (bits_of table)) in
    let z : 0 + length (listed names) ≡ length (listed names) = omega arith in
    let c : count - 0 ≡ count = omega arith in
    record {
      counted = omega arith;
      few = h.counted.few;
      near = omega arith;
      far = omega arith;
      same = refl;
      whole = rw c h.whole;
      room = rw c (omega (arith, h.within));
      stands = cc;
    }

length-entry : (bits : List Bool) (at : ℕ) → length (entry_at bits at) ≡ 1 + size bits at
unfolding entry_at
length-entry bits at = omega (arith, length-bytes_from (size bits at) (drop (at + length_bits) bits))

module _ {table : List ℕ} {count : ℕ} {buffer₀ buffer : List ℕ} {at to i : ℕ} (l : Laying table count buffer₀ buffer at to i) (h : i < count) where
  abbrev bits : List Bool
  bits = bits_of table

  abbrev others : ℕ
  others = count - (i + 1)

  left : count - i ≡ suc others
  left = omega arith

  here : Next bits others at
  here = next bits others at (rw left at l.whole)

  -- what is listed behind the next name
  abbrev rest : List ℕ
  rest = listed (names_from others (drop (past bits at) bits))

  lists : listed (names_from (count - i) (drop at bits)) ≡ entry_at bits at ++ rest
  lists = rw left here.lists

  length-lists : length (listed (names_from (count - i) (drop at bits))) ≡ 1 + size bits at + length rest
  length-lists = omega (arith, ap length lists, length-append (entry_at bits at) rest, length-entry bits at)

  pub lay-entry : Entry table buffer at to
  lay-entry =
      let b = length-bits_of table in
      let m = length-lists in
      record { near = omega (arith, l.near, l.few); opened = omega (arith, here.opened); there = omega (arith, here.there); place = omega (arith, l.room) }

  pub lay-again : {new : List ℕ} {n : ℕ} → NameLaid table buffer new at to n → Laying table count buffer₀ new (at + 4 + 8 * n) (to + 1 + n) (i + 1)
  lay-again {new} {n} e =
      let entry = entry_at bits at in
      let f = length-entry bits at in
      let m = length-lists in
      let p : past bits at ≡ at + 4 + 8 * n = cc e.size in
      let q : to + length entry ≡ to + 1 + n = omega (arith, e.size) in
      let u : length new ≡ length buffer = ap length e.stands ∙ length-laid to entry buffer (omega (arith, l.room)) in
      let r : to + 1 + n + length rest ≤ length new = omega (arith, l.room) in
      record {
        counted = omega arith;
        few = l.few;
        near = omega (arith, l.near, e.short);
        far = omega (arith, l.far, e.short);
        same = u ∙ l.same;
        whole = cc here.whole;
        room = rw p at r;
        stands = cc (e.stands, laid-laid to entry rest buffer (omega (arith, l.room)), lists, l.stands);
      }

pub lay-ends : {table : List ℕ} {count : ℕ} {buffer₀ buffer : List ℕ} {at to i : ℕ} → Laying table count buffer₀ buffer at to i → count ≤ i
    → buffer ≡ laid (listed (names_of table count)) buffer₀
unfolding names_from laid_at list_bytes
lay-ends {table} {count} {buffer₀} {buffer} {at} {to} {i} l h =
    let z : count - i ≡ 0 = omega arith in
    let o : to + 0 ≡ to = omega arith in
    sym (take-append-drop to buffer) ∙ ap (λ (x : ℕ). take to buffer ++ drop x buffer) (sym o) ∙ rw z at l.stands

-- ---- the call

pub held_fits : {count total : ℕ} {j : Result (ℕ × ℕ) Answer} (table buffer : List ℕ) → j ≡ judgement (table_of table) → j ≡ Ok (count, total) → total ≤ length buffer
    → Fits table count (length buffer)
held_fits table buffer e f h =
    let k = held table e f in
    record {
      counted = k.counted;
      whole = ap is_whole k.read;
      within = rw k.read (omega (arith, k.size));
    }

pub unpack-taken : {count total : ℕ} {j : Result (ℕ × ℕ) Answer} (table buffer new : List ℕ) → j ≡ judgement (table_of table) → j ≡ Ok (count, total) → total ≤ length buffer
    → new ≡ laid (listed (names_of table count)) buffer → UnpacksTo (unpacking_of (table_of table) buffer) new (record { left = total; answer = Taken })
unpack-taken {count} {total} table buffer new e f h g =
    let k = held table e f in
    let u : unpacking_of (table_of table) buffer ≡ unpacking Taken (length (list_bytes k.names)) (laid (list_bytes k.names) buffer) =
    rw k.same (unpacked k.names buffer (omega (arith, k.size))) in
    record {
      told = ap (answered Taken) (sym k.size) ∙ ap (λ (x : Unpacking). answered x.answer x.length-of) (sym u);
      buffer = g ∙ ap (λ (m : Read Names). laid (listed m) buffer) k.read ∙ ap (λ (x : Unpacking). x.buffer) (sym u);
    }

pub unpack-short : {count total : ℕ} {j : Result (ℕ × ℕ) Answer} (table buffer : List ℕ) → j ≡ judgement (table_of table) → j ≡ Ok (count, total) → length buffer < total
    → UnpacksTo (unpacking_of (table_of table) buffer) buffer (record { left = 0; answer = NoRoom })
unfolding unpacking_of
unpack-short table buffer e f h =
    let k = held table e f in
    let r : length buffer < length (list_bytes k.names) = omega (arith, k.size) in
    let u : unpacking_of (table_of table) buffer ≡ unpacking NoRoom 0 buffer = rw k.same (cond-false _ _ (lt-leb _ _ r)) in
    record { told = cc; buffer = cc }

refusal : {a : Answer} (t : Table) → judgement t ≡ Err a → t ≡ refused a
refusal (holds names) e = cc
refusal (refused b) e = cc

pub unpack-refused : {a : Answer} {j : Result (ℕ × ℕ) Answer} (table buffer : List ℕ) → j ≡ judgement (table_of table) → j ≡ Err a
    → UnpacksTo (unpacking_of (table_of table) buffer) buffer (record { left = 0; answer = a })
unfolding unpacking_of
unpack-refused {a} table buffer e f =
    let u = refusal (table_of table) (sym e ∙ f) in
    record { told = cc; buffer = cc }
