-- What writing a score or a unit answers and leaves, way by way. Assumes nothing.
use Prim.Native.Nat.{ℕ, ◌+◌, ◌*◌, ◌/◌, ◌<◌, ◌≤◌}
use mathlib.Core.Path.{◌≡◌, sym, ap, ◌∙◌}
use mathlib.Core.Bool.{Bool, true, false}
use mathlib.Core.List.{List, ◌++◌}
use native.Mathlib.Omega.{arith}
use borrow.Author.Tests.{le-leb, lt-leb}
use lib.Dec.{leb}
use lib.ListN.{length, get_or, drop, replicate, length-append}
use mir.Val.{Fits}
use mir.Syntax.{w8}
use Rattle.base_answer.specs.Numbers.{is_taken}
use Rattle.base_answer.specs.declared.Answer.{Answer}
use Rattle.base_answer.specs.declared.Answer.TheVariants.{Taken, OutOfRange, NoRoom}
use Rattle.base_bitstream.specs.Bits.{bits_of, field}
use Rattle.base_bitstream.specs.Fields.{over}
use Rattle.base_bitstream.specs.inside.Fields.{written}
use Rattle.base_bitstream.specs.Filling.{missing, filled_up, bytes_of}
use Rattle.base_bitstream.proofs.BitValues.{length-field, length-bits_of}
use Rattle.score_line.specs.declared.Line.{Line}
use Rattle.score_line.specs.declared.LineRead.{LineRead}
use Rattle.score_line_writer.specs.Writing.{line_bits, line_fault, LineWritten}
use Rattle.score_reader.specs.declared.ScoreRead.{ScoreRead}
use Rattle.score_writer.specs.Writing.{lines_bits, score_bits, score_bytes, unit_bits, unit_bytes, most_lines}
use Rattle.score_writer.specs.Slots.{slot_read, area_fault, area_lines}
use Rattle.score_writer.specs.Written.{refusal, score_written, score_left, unit_written, unit_left, slot_written, slot_left, ScoreDone, UnitDone, SlotDone}
use Rattle.score_writer.specs.inside.Laid.{Laid, RoomAt, Short}
use Rattle.score_writer.specs.declared.WriteResult.{WriteResult}
use Rattle.score_writer.proofs.Area.{lines-count}
use Rattle.score_writer.proofs.Lays.{line-laid, end-room, whole-laid, length-bytes, laid-bytes}

-- ---- the bits of a unit and of a score

module _ (l : Line) (first s t : List ℕ) (p : ℕ) (room : RoomAt (8 * length first) 2 (length (line_bits l))) (wrote : bits_of s ≡ written (bits_of first) 0 2 0) (same : length s ≡ length first)
    (line : LineWritten (bits_of s) 2 l (bits_of t) p) (kept : length t ≡ length s) where
  line-there : Laid (bits_of s) 2 (line_bits l) (bits_of t) p
  line-there = line-laid (bits_of s) (bits_of t) 2 p l room.near (omega (arith, room.within, length-bits_of s)) line

  pub unit-room : RoomAt (8 * length t) p 0
  unit-room = end-room first s t 2 0 p (line_bits l) (omega arith) room wrote same line-there kept

  pub unit-bits : (u : List ℕ) → bits_of u ≡ over (bits_of t) p (replicate (missing p) false) → bits_of u ≡ over (bits_of first) 0 (unit_bits l)
  unfolding unit_bits
  unit-bits u e = whole-laid first s t 2 0 p (line_bits l) (omega arith) room wrote same line-there kept u e

module _ (area : List ℕ) (n : ℕ) (first s t : List ℕ) (p : ℕ) (room : RoomAt (8 * length first) 20 (length (lines_bits (area_lines area n 0))))
    (wrote : bits_of s ≡ written (bits_of first) 0 20 n) (same : length s ≡ length first) (lines : Laid (bits_of s) 20 (lines_bits (area_lines area n 0)) (bits_of t) p) (kept : length t ≡ length s) where
  pub score-bits : (u : List ℕ) → bits_of u ≡ over (bits_of t) p (replicate (missing p) false) → bits_of u ≡ over (bits_of first) 0 (score_bits (area_lines area n 0))
  unfolding score_bits
  score-bits u e =
      whole-laid first s t 20 n p (lines_bits (area_lines area n 0)) (omega arith) room wrote same lines kept u e
      ∙ ap (λ (k : ℕ). over (bits_of first) 0 (filled_up (field 20 k ++ lines_bits (area_lines area n 0)))) (sym (lines-count area n 0))

-- ---- bytes into the lent bytes

head-length : (w v : ℕ) (body : List Bool) → length (bytes_of (filled_up (field w v ++ body))) ≡ (w + length body + 7) / 8
head-length w v body = cc (length-bytes (field w v ++ body), length-append (field w v) body, length-field w v)

abbrev Bytes : List ℕ → Type 0
Bytes s = (i : ℕ) → Fits w8 (get_or s i 0)

module _ (s : List ℕ) (w v : ℕ) (body : List Bool) (m : ℕ) (short : m ≡ (w + length body + 7) / 8) where
  abbrev bytes : List ℕ
  bytes = bytes_of (filled_up (field w v ++ body))

  no_room : length s < m → leb (length bytes) (length s) ≡ false
  no_room h = lt-leb (length bytes) (length s) (omega (arith, head-length w v body))

  has_room : m ≤ length s → leb (length bytes) (length s) ≡ true
  has_room h = le-leb (length bytes) (length s) (omega (arith, head-length w v body))

  laid-there : (t : List ℕ) → Bytes s → Bytes t → m ≤ length s → bits_of t ≡ over (bits_of s) 0 (filled_up (field w v ++ body)) → t ≡ bytes ++ drop (length bytes) s
  laid-there t hs ht h e = laid-bytes s t (field w v ++ body) (λ i. (hs i).fits) (λ i. (ht i).fits)
      (omega (arith, head-length w v body, length-bytes (field w v ++ body))) e

-- ---- a unit

module _ (l : Line) (s : List ℕ) {a : Answer} {b : Bool} (e : a ≡ line_fault l) (f : b ≡ is_taken a) where
  pub unit-refused : {x : WriteResult} → b ≡ false → x ≡ refusal a 0 → UnitDone l s s x
  unfolding unit_written unit_left
  unit-refused g y = record { answers = cc; leaves = cc }

  module _ (g : b ≡ true) (m : ℕ) (short : Short (length (line_bits l)) 367 m) where
    size : (m + 9) / 8 ≡ (2 + length (line_bits l) + 7) / 8
    size = ap (λ (k : ℕ). k / 8) (omega (arith, short.is))

    pub unit-short : {x : WriteResult} → length s < (m + 9) / 8 → x ≡ refusal NoRoom 0 → UnitDone l s s x
    unfolding unit_written unit_left unit_bytes unit_bits
    unit-short h y = let k = no_room s 2 0 (line_bits l) ((m + 9) / 8) size h in record { answers = cc; leaves = cc }

    pub unit-taken : (t : List ℕ) → Bytes s → Bytes t → (m + 9) / 8 ≤ length s → bits_of t ≡ over (bits_of s) 0 (unit_bits l) → UnitDone l s t (record { answer = Taken; line = 0; bytes = (m + 9) / 8 })
    unfolding unit_written unit_left unit_bytes unit_bits
    unit-taken t hs ht h k =
        let j = has_room s 2 0 (line_bits l) ((m + 9) / 8) size h in
        record { answers = cc (head-length 2 0 (line_bits l), size); leaves = cc (laid-there s 2 0 (line_bits l) ((m + 9) / 8) size t hs ht h k) }

-- ---- a slot

module _ (area s : List ℕ) {r : LineRead} {b : Bool} (e : r ≡ slot_read area 0) (f : b ≡ is_taken r.answer) where
  pub slot-refused : {x : WriteResult} → b ≡ false → x ≡ refusal r.answer 0 → SlotDone area s s x
  unfolding slot_written slot_left
  slot-refused g y = record { answers = cc; leaves = cc }

  pub slot-unit : (t : List ℕ) {x : WriteResult} → b ≡ true → UnitDone r.line s t x → SlotDone area s t x
  unfolding slot_written slot_left
  slot-unit t g u = record { answers = cc u.answers; leaves = cc u.leaves }

-- ---- a score

module _ (area : List ℕ) (n : ℕ) (s : List ℕ) {r : ScoreRead} {b : Bool} (e : r ≡ area_fault area n 0) (f : b ≡ is_taken r.answer) where
  pub score-refused : {x : WriteResult} → b ≡ false → x ≡ refusal r.answer r.line → ScoreDone area n s s x
  unfolding score_written score_left
  score-refused g y = record { answers = cc; leaves = cc }

  module _ (g : b ≡ true) where
    pub score-many : {x : WriteResult} → 1048575 < n → x ≡ refusal OutOfRange 0 → ScoreDone area n s s x
    unfolding score_written score_left
    score-many h y = let k = lt-leb n most_lines h in record { answers = cc; leaves = cc }

    module _ (few : n ≤ 1048575) (m : ℕ) (short : Short (length (lines_bits (area_lines area n 0))) (367 * n) m) where
      abbrev body : List Bool
      body = lines_bits (area_lines area n 0)

      abbrev number : ℕ
      number = length (area_lines area n 0)

      score-size : (m + 27) / 8 ≡ (20 + length body + 7) / 8
      score-size = ap (λ (k : ℕ). k / 8) (omega (arith, short.is))

      pub score-short : {x : WriteResult} → length s < (m + 27) / 8 → x ≡ refusal NoRoom 0 → ScoreDone area n s s x
      unfolding score_written score_left score_bytes score_bits
      score-short h y =
          let k = le-leb n most_lines few in
          let j = no_room s 20 number body ((m + 27) / 8) score-size h in
          record { answers = cc; leaves = cc }

      pub score-taken : (t : List ℕ) → Bytes s → Bytes t → (m + 27) / 8 ≤ length s → bits_of t ≡ over (bits_of s) 0 (score_bits (area_lines area n 0))
          → ScoreDone area n s t (record { answer = Taken; line = 0; bytes = (m + 27) / 8 })
      unfolding score_written score_left score_bytes score_bits
      score-taken t hs ht h q =
          let k = le-leb n most_lines few in
          let j = has_room s 20 number body ((m + 27) / 8) score-size h in
          record { answers = cc (head-length 20 number body, score-size); leaves = cc (laid-there s 20 number body ((m + 27) / 8) score-size t hs ht h q) }
