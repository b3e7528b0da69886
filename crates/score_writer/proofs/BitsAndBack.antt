-- Whole scores and units, written and read: each undoes the other. Assumes nothing.
use Prim.Native.Nat.{ℕ, zero, suc, ◌+◌, ◌-◌, ◌*◌, ◌%◌, ◌^◌, ◌<◌, ◌≤◌}
use mathlib.Core.Path.{◌≡◌, refl, sym, ap, ◌∙◌}
use mathlib.Core.Bool.{Bool, true, false}
use mathlib.Core.List.{List, [], ◌∷◌, ◌++◌, append_assoc}
use native.Mathlib.Nat.{add_assoc, add-zero}
use native.Mathlib.Omega.{arith}
use lib.ListN.{length, drop, replicate, length-append, length-drop}
use lib.Dec.{T}
use lib.Ieee.Fits.{and_l, and_r, and_i}
use lib.Seq.{drop_at, drop-drop}
use Rattle.base_bitstream.specs.Bits.{field}
use Rattle.base_bitstream.specs.Fields.{farthest, read_at}
use Rattle.std.specs.Prelude.{Option, Some, None}
use Rattle.base_bitstream.specs.Filling.{missing, filled, filled_up}
use Rattle.base_bitstream.proofs.BitValues.{length-field}
use Rattle.base_bitstream.proofs.Fields.{read_here, read_back}
use Rattle.base_bitstream.proofs.Filling.{filled-back, filled-here, filled-up, length-filled_up}
use Rattle.base_formats.specs.Format.{bit_source, got}
use Rattle.score_line.specs.Reading.{line_from, line_at, line_read}
use Rattle.score_line.specs.declared.Line.{Line}
use Rattle.score_line_writer.specs.Writing.{line_bits}
use Rattle.score_line.specs.LineFormat.{valid}
use Rattle.score_line_writer.proofs.Proved.{read_taken, line-long, before-append, line-here as bits-here, line-back-here}
use Rattle.score_writer.specs.Writing.{lines_bits, score_bits, unit_bits, most_lines}
use Rattle.score_writer.specs.Bytes.{all_valid}
use Rattle.score_reader.specs.Score.{all, lines_from, taken, score_of, unit_of, opened, whole_line}
use Rattle.score_reader.proofs.Walk.{accepted, accepts, lines-back, unit-accepted}

pub record Back (l : List Bool) (at : ℕ) (x : Line) (p : ℕ) : Type 0 where
  pub here : drop at l ≡ line_bits x ++ drop p l
  pub next : p ≡ at + length (line_bits x)
  pub valid : T (valid x)
  pub room : p ≤ length l

-- ---- one line, as a reading

line-here : (l : List Bool) (at : ℕ) (x : Line) (rest : List Bool) → length l ≤ farthest → T (valid x) → drop at l ≡ line_bits x ++ rest
    → line_from (bit_source l) at ≡ got x (at + length (line_bits x))
unfolding line_at
line-here l at x rest h w e =
    let n : length l - at ≡ length (line_bits x) + length rest = sym (length-drop at l) ∙ ap length e ∙ length-append (line_bits x) rest in
    let k : at + length (line_bits x) ≤ farthest = omega (arith, (line-long x w).0) in
    read_taken (line_from (bit_source l) at) x (at + length (line_bits x)) (bits-here l at x rest w k (e ∙ before-append x rest)).0

line-back : (l : List Bool) (at : ℕ) (x : Line) (p : ℕ) → line_from (bit_source l) at ≡ got x p → Back l at x p
unfolding line_at line_read
line-back l at x p e =
    let k = line-back-here l at x p (ap line_read e) in
    record { here = k.here ∙ sym (before-append x (drop p l)); next = k.past; valid = k.is-valid; room = k.within }

-- ---- lines

lines-here : (l : List Bool) (at i : ℕ) (ls : List Line) (rest : List Bool) → length l ≤ farthest → T (all_valid ls) → drop at l ≡ lines_bits ls ++ rest
    → lines_from l (length ls) i at ≡ all ls (at + length (lines_bits ls))
unfolding lines_from lines_bits all_valid
lines-here l at i [] rest h u e = ap (all []) (sym (add-zero at))
lines-here l at i (x ∷ ls) rest h u e =
    let b = line_bits x in
    let bs = lines_bits ls in
    let f = e ∙ append_assoc b bs rest in
    let r = line-here l at x (bs ++ rest) h (and_l (valid x) (all_valid ls) u) f in
    let d : drop (at + length b) l ≡ bs ++ rest = cc (drop-drop (length b) at l, drop_at b (bs ++ rest) (length b) refl) in
    let t = lines-here l (at + length b) (suc i) ls rest h (and_r (valid x) (all_valid ls) u) d in
    rw r (cc (add_assoc at (length b) (length bs), length-append b bs))

pub record Lines-back (l : List Bool) (n at : ℕ) (ls : List Line) (q : ℕ) : Type 0 where
  pub here : drop at l ≡ lines_bits ls ++ drop q l
  pub next : q ≡ at + length (lines_bits ls)
  pub valid : T (all_valid ls)
  pub count : length ls ≡ n
  pub room : q ≤ length l

lines-there : (l : List Bool) (n at i : ℕ) (ls : List Line) (q : ℕ) → at ≤ length l → lines_from l n i at ≡ all ls q → Lines-back l n at ls q
unfolding lines_from lines_bits all_valid
lines-there l zero at i ls q h e =
    let k : ls ≡ [] = cc in
    let p : at ≡ q = cc in
    rw k (record { here = cc; next = cc (add-zero at); valid = tt; count = refl; room = omega arith })
lines-there l (suc n) at i ls q h e =
    let m = lines-back l n i at ls q e in
    let b = line-back l at m.line m.next m.line-there in
    let t = lines-there l n m.next (suc i) m.others q b.room m.others-there in
    let bs = line_bits m.line in
    let cs = lines_bits m.others in
    rw m.lines (record {
      here = cc (b.here, t.here, append_assoc bs cs (drop q l));
      next = omega (arith, t.next, b.next, length-append bs cs);
      valid = and_i (valid m.line) (all_valid m.others) b.valid t.valid;
      count = ap suc t.count;
      room = t.room;
    })

lines-short : (ls : List Line) → T (all_valid ls) → length (lines_bits ls) ≤ 367 * length ls
unfolding lines_bits all_valid
lines-short [] u = omega arith
lines-short (x ∷ ls) u =
    omega (arith, length-append (line_bits x) (lines_bits ls), (line-long x (and_l (valid x) (all_valid ls) u)).1, lines-short ls (and_r (valid x) (all_valid ls) u))

-- ---- a first field, what follows it, and zero bits to a whole byte

module _ (w v : ℕ) (body : List Bool) where
  abbrev whole : List Bool
  whole = filled_up (field w v ++ body)

  abbrev zeros : List Bool
  zeros = replicate (missing (length (field w v ++ body))) false

  pub whole-bytes : length whole % 8 ≡ 0
  whole-bytes = let e = length-filled_up (field w v ++ body) in omega arith

  record Here : Type 0 where
    near : length whole ≤ farthest
    first : read_at whole 0 w ≡ Some (v, 0 + w)
    rest : drop (0 + w) whole ≡ body ++ zeros
    last : filled whole (0 + w + length body) ≡ true

  whole_here : 0 < w → w ≤ 32 → v < 2 ^ w → length body ≤ 2 ^ 60 → Here
  unfolding filled_up
  whole_here h0 hw hv hb =
      let k = length-field w v in
      let kb = length-append (field w v) body in
      let kl = length-filled_up (field w v ++ body) in
      let near : length whole ≤ farthest = omega arith in
      let r = read_here whole 0 w v (body ++ zeros) near h0 hw hv (append_assoc (field w v) body zeros) in
      let d : drop (0 + w + length body) whole ≡ zeros = cc (drop-drop (length body) (0 + w) whole, r.1, drop_at body zeros (length body) refl) in
      let m : missing (length (field w v ++ body)) < 8 = omega arith in
      record { near = near; first = r.0; rest = r.1; last = filled-here whole (0 + w + length body) (missing (length (field w v ++ body))) m d }

  whole_back : (l : List Bool) (start p : ℕ) → length l % 8 ≡ 0 → read_at l 0 w ≡ Some (v, start) → drop start l ≡ body ++ drop p l → p ≡ start + length body
      → filled l p ≡ true → l ≡ whole
  whole_back l start p h r b n f =
      let k = read_back l 0 w v start r in
      let e = filled-back l p f in
      let x : length (field w v ++ body) ≡ p = omega (arith, length-append (field w v) body, length-field w v, k.next) in
      filled-up l (field w v ++ body) h (omega (arith, e.0)) (cc (k.here, b, e.1, append_assoc (field w v) body (drop p l)))

-- ---- a whole score

-- a written score is read
pub score-here : (ls : List Line) → T (all_valid ls) → length ls ≤ most_lines → score_of (score_bits ls) ≡ taken ls
unfolding score_bits
score-here ls w h =
    let t = whole_here 20 (length ls) (lines_bits ls) (omega arith) (omega arith) (omega arith) (omega (arith, lines-short ls w)) in
    accepts (score_bits ls) ls (record {
      count = length ls;
      start = 20;
      end = 20 + length (lines_bits ls);
      counted-there = t.first;
      lines-there = lines-here (score_bits ls) 20 0 ls (zeros 20 (length ls) (lines_bits ls)) t.near w t.rest;
      filled-there = t.last;
    })

-- a score that is read is the written one
pub record Score-back (l : List Bool) (ls : List Line) : Type 0 where
  pub bits : l ≡ score_bits ls
  pub valid : T (all_valid ls)
  pub count : length ls ≤ most_lines

pub score-back : (l : List Bool) (ls : List Line) → length l % 8 ≡ 0 → score_of l ≡ taken ls → Score-back l ls
unfolding score_bits
score-back l ls h e =
    let a = accepted l ls e in
    let r = read_back l 0 20 a.count a.start a.counted-there in
    let t = lines-there l a.count a.start 0 ls a.end (omega (arith, r.next, r.room)) a.lines-there in
    record {
      bits = rw t.count (whole_back 20 a.count (lines_bits ls) l a.start a.end h a.counted-there t.here t.next a.filled-there);
      valid = t.valid;
      count = omega (arith, r.small, t.count);
    }

-- ---- an access unit

-- a written unit is read
pub unit-here : (x : Line) → T (valid x) → unit_of (unit_bits x) ≡ line_read (got x (2 + length (line_bits x)))
unfolding unit_of opened whole_line line_at unit_bits line_read
unit-here x w =
    let t = whole_here 2 0 (line_bits x) (omega arith) (omega arith) (omega arith) (omega (arith, (line-long x w).1)) in
    let r = line-here (unit_bits x) 2 x (zeros 2 0 (line_bits x)) t.near w t.rest in
    rw (t.first, r, t.last)

-- a unit that is read is the written one
pub record Unit-back (l : List Bool) (x : Line) (p : ℕ) : Type 0 where
  pub bits : l ≡ unit_bits x
  pub valid : T (valid x)
  pub next : p ≡ 2 + length (line_bits x)

pub unit-back : (l : List Bool) (x : Line) (p : ℕ) → length l % 8 ≡ 0 → unit_of l ≡ line_read (got x p) → Unit-back l x p
unfolding unit_bits
unit-back l x p h e =
    let a = unit-accepted l x p e in
    let r = read_back l 0 2 0 a.start a.opened-there in
    let t = line-back l a.start x p a.line-there in
    record {
      bits = whole_back 2 0 (line_bits x) l a.start p h a.opened-there t.here t.next a.filled-there;
      valid = t.valid;
      next = omega (arith, t.next, r.next);
    }
