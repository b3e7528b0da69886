-- Fields written one after the other, and the line that they make. Assumes nothing.
use Prim.Native.Nat.{ℕ, zero, suc, ◌+◌, ◌-◌, ◌*◌, ◌/◌, ◌<◌, ◌≤◌}
use mathlib.Core.Path.{◌≡◌, refl, sym, ap, ap₂, ◌∙◌}
use mathlib.Core.Bool.{Bool, true, false}
use mathlib.Core.List.{List, [], ◌∷◌, ◌++◌, append_assoc, append-nil}
use native.Mathlib.Nat.{add-zero, lt_of_not-le}
use native.Mathlib.Numerals.{add-one}
use native.Mathlib.Decide.{dec_le}
use native.Mathlib.Omega.{arith}
use borrow.Author.Tests.{le-leb, lt-leb, leb-true}
use lib.Dec.{leb}
use lib.ListN.{length, take, get_or, replicate, length-append, take-append-drop}
use lib.Seq.{take_at}
use mir.Val.{Fits}
use mir.Syntax.{w64}
use Rattle.base_laws.proofs.Choice.{both_true}
use Rattle.base_answer.specs.declared.Answer.{Answer}
use Rattle.base_bitstream.specs.Bits.{bits_of, field}
use Rattle.base_bitstream.specs.Fields.{farthest, over, put}
use Rattle.base_bitstream.specs.inside.Fields.{written}
use Rattle.base_bitstream.proofs.BitValues.{length-field, length-bits_of}
use Rattle.base_bitstream.proofs.Fields.{length_over, over-over, written_over}
use Rattle.score_line.specs.Reading.{keypad_line}
use Rattle.score_line.specs.declared.Line.{Line}
use Rattle.base_formats.specs.Format.{Field, of, field_bits, field_words}
use Rattle.base_formats.specs.inside.Lengths.{field_widths, widths}
use Rattle.base_formats.proofs.InBits.{length-bits}
use Rattle.base_formats.proofs.InWords.{length-words}
use Rattle.base_formats.proofs.Descriptions.{Narrow, narrow}
use Rattle.score_line_writer.specs.Writing.{line_fields, line_bits, line_before, line_words, to_slot, line_fault, line_slot, bits_fit, line_over, past_line, LineWritten}
use Rattle.score_line_writer.specs.inside.Packed.{packed, zipped, fields_in, Writable, Wrote}
use Rattle.score_line_writer.specs.declared.Fields.{Fields}
use Rattle.score_line_writer.proofs.LineLaw.{line-proper}
use Rattle.score_line_writer.proofs.Packs.{length-widths, sum-snoc}
use Rattle.score_line_writer.proofs.Proved.{length-line}
use Rattle.score_line.specs.LineFormat.{slot_words, line}

-- ---- whether bits fit

module _ (bits at n : ℕ) where
  pub fit-far : farthest < at + n → false ≡ bits_fit bits at n
  unfolding bits_fit
  fit-far h = sym (rw (lt-leb (at + n) farthest h))

  fit-yes : at + n ≤ farthest → at + n ≤ bits → bits_fit bits at n ≡ true
  unfolding bits_fit
  fit-yes h k = rw (le-leb (at + n) farthest h, le-leb (at + n) bits k)

  fit-no : at + n ≤ farthest → bits < at + n → bits_fit bits at n ≡ false
  unfolding bits_fit
  fit-no h k = rw (le-leb (at + n) farthest h, lt-leb (at + n) bits k)

  pub fit-back : bits_fit bits at n ≡ true → (at + n ≤ farthest) × (at + n ≤ bits)
  unfolding bits_fit
  fit-back e = let t = both_true (leb (at + n) farthest) (leb (at + n) bits) e in (leb-true (at + n) farthest t.0, leb-true (at + n) bits t.1)

pub fit-bytes : (bytes at n : ℕ) → at + n ≤ farthest → leb ((at + n + 7) / 8) bytes ≡ bits_fit (8 * bytes) at n
fit-bytes bytes at n h = go (dec_le (at + n) (8 * bytes))
  where
    go : Dec (at + n ≤ 8 * bytes) → leb ((at + n + 7) / 8) bytes ≡ bits_fit (8 * bytes) at n
    go (yes k) = let e : (at + n + 7) / 8 ≤ bytes = omega arith in le-leb _ _ e ∙ sym (fit-yes (8 * bytes) at n h k)
    go (no k) = let e : bytes < (at + n + 7) / 8 = omega arith in lt-leb _ _ e ∙ sym (fit-no (8 * bytes) at n h (lt_of_not-le k))

-- ---- the loop

fields-more : (ws vs : List ℕ) (i : ℕ) → i < length ws → i < length vs → fields_in (suc i) ws vs ≡ fields_in i ws vs ++ (of (get_or ws i 0) (get_or vs i 0) ∷ [])
fields-more [] vs i h k = absurd (omega arith)
fields-more (w ∷ ws) [] i h k = absurd (omega arith)
fields-more (w ∷ ws) (v ∷ vs) zero h k = refl
fields-more (w ∷ ws) (v ∷ vs) (suc i) h k = ap (λ (l : List Field). of w v ∷ l) (fields-more ws vs i (omega arith) (omega arith))

widths-grow : (ws vs : List ℕ) (i n : ℕ) → i ≤ n → widths (fields_in i ws vs) ≤ widths (fields_in n ws vs)
widths-grow ws vs zero n h = omega arith
widths-grow ws vs (suc i) zero h = absurd (omega arith)
widths-grow [] vs (suc i) (suc n) h = omega arith
widths-grow (w ∷ ws) [] (suc i) (suc n) h = omega arith
widths-grow (w ∷ ws) (v ∷ vs) (suc i) (suc n) h = omega (arith, widths-grow ws vs i n (omega arith))

bits-snoc : (fs : List Field) (w v : ℕ) → field_bits (fs ++ (of w v ∷ [])) [] ≡ field_bits fs [] ++ field w v
unfolding field_bits
bits-snoc [] w v = append-nil (field w v)
bits-snoc (of a b ∷ fs) w v = ap (put a b) (bits-snoc fs w v) ∙ sym (append_assoc (field a b) (field_bits fs []) (field w v))

nothing-over : (l : List Bool) (at : ℕ) → l ≡ over l at []
nothing-over l at = cc (add-zero at, take-append-drop at l)

module _ (at n : ℕ) (ws vs first : List ℕ) where
  -- i fields are written, up to p
  pub record Loop (s : List ℕ) (p i : ℕ) : Type 0 where
    pub same : length s ≡ length first
    pub upto : i ≤ n
    pub wrote : Wrote (bits_of first) at (fields_in i ws vs) (bits_of s) p

  pub loop-start : Loop first at 0
  unfolding field_bits
  loop-start = record { same = refl; upto = omega arith; wrote = record { past = omega arith; stands = nothing-over (bits_of first) at } }

  module _ (h : Writable (8 * length first) at n ws vs) (hw : length ws ≡ slot_words) (hv : length vs ≡ slot_words) where
    more : (i : ℕ) → i < n → fields_in (i + 1) ws vs ≡ fields_in i ws vs ++ (of (get_or ws i 0) (get_or vs i 0) ∷ [])
    more i l = ap (λ (k : ℕ). fields_in k ws vs) (add-one i) ∙ fields-more ws vs i (omega (arith, h.few)) (omega (arith, h.few))

    -- the next field is within
    next_fits : (i : ℕ) → i < n → (at + widths (fields_in i ws vs) + get_or ws i 0 ≤ farthest) × (at + widths (fields_in i ws vs) + get_or ws i 0 ≤ 8 * length first)
    next_fits i l =
        let e = ap widths (more i l) ∙ sum-snoc (fields_in i ws vs) (get_or ws i 0) (get_or vs i 0) in
        let g = widths-grow ws vs (i + 1) n (omega arith) in
        (omega (arith, h.near), omega (arith, h.within))

    pub loop-more : (s t : List ℕ) (p i : ℕ) → Loop s p i → i < n → length t ≡ length s → bits_of t ≡ written (bits_of s) p (get_or ws i 0) (get_or vs i 0)
        → Loop t (p + get_or ws i 0) (i + 1)
    loop-more s t p i c l same e =
        let w = get_or ws i 0 in
        let v = get_or vs i 0 in
        let fs = fields_in i ws vs in
        let b = field_bits fs [] in
        let f = next_fits i l in
        let past = c.wrote.past in
        let k : length b ≡ widths fs = length-bits fs [] ∙ add-zero (widths fs) in
        let p-is : p ≡ at + length b = omega arith in
        let size = length-bits_of first in
        let m : at + length b ≤ length (bits_of first) = omega (arith, f.1) in
        let mw : at + length b + length (field w v) ≤ length (bits_of first) = omega (arith, f.1, length-field w v) in
        let ln : length (bits_of s) ≡ length (bits_of first) = ap length c.wrote.stands ∙ length_over (bits_of first) at b m in
        record {
          same = same ∙ c.same;
          upto = omega arith;
          wrote = record {
            past = omega (arith, ap widths (more i l), sum-snoc fs w v);
            stands =
                cc (
                  written_over (bits_of s) p w v (h.narrow i) (omega (arith, f.0)) (omega (arith, f.1)),
                  c.wrote.stands,
                  over-over (bits_of first) at b m (field w v)
                      mw,
                  more i l,
                  bits-snoc fs w v,
                );
          };
        }

    pub loop-fits : (s : List ℕ) (p i : ℕ) → Loop s p i → i < n → Fits w64 (p + get_or ws i 0)
    loop-fits s p i c l = record { fits = omega (arith, (next_fits i l).0, c.wrote.past) }

  pub loop-end : (s : List ℕ) (p i : ℕ) → Loop s p i → n ≤ i → Wrote (bits_of first) at (fields_in n ws vs) (bits_of s) p
  loop-end s p i c l = let e : i ≡ n = omega (arith, c.upto) in rw e at c.wrote

-- ---- a line's fields in the arrays

zeros-narrow : (n i : ℕ) → get_or (replicate n 0) i 0 ≤ 32
zeros-narrow zero i = omega arith
zeros-narrow (suc n) zero = omega arith
zeros-narrow (suc n) (suc i) = zeros-narrow n i

narrow_at : (fs : List Field) (n i : ℕ) → Narrow fs → get_or (field_widths fs ++ replicate n 0) i 0 ≤ 32
unfolding field_widths
narrow_at [] n i h = zeros-narrow n i
narrow_at (of w v ∷ fs) n zero h = h.0
narrow_at (of w v ∷ fs) n (suc i) h = narrow_at fs n i h.1

zip-back : (fs : List Field) → zipped (field_widths fs) (field_words fs) ≡ fs
unfolding field_widths field_words
zip-back [] = refl
zip-back (of w v ∷ fs) = ap (λ (l : List Field). of w v ∷ l) (zip-back fs)

pub fields_back : (fs : List Field) → fields_in (length fs) (to_slot (field_widths fs)) (to_slot (field_words fs)) ≡ fs
unfolding to_slot
fields_back fs =
    ap₂ zipped (take_at (field_widths fs) (replicate (slot_words - length (field_widths fs)) 0) (length fs) (length-widths fs))
    (take_at (field_words fs) (replicate (slot_words - length (field_words fs)) 0) (length fs) (length-words fs))
    ∙ zip-back fs

-- ---- the line written

module _ (f : Fields) (l : Line) (e : f ≡ packed (line_fields l)) where
  fields-are : fields_in f.count f.widths f.values ≡ line_fields l
  unfolding packed
  fields-are = ap (λ (g : Fields). fields_in g.count g.widths g.values) e ∙ fields_back (line_fields l)

  pub bits_are : f.bits ≡ length (line_bits l)
  unfolding packed
  bits_are = ap (λ (g : Fields). g.bits) e ∙ sym (length-line l)

  pub slot_is : f.values ≡ line_slot l
  unfolding packed line_slot line_words
  slot_is = ap (λ (g : Fields). g.values) e

  pub count-within : f.count ≤ length f.values
  unfolding packed to_slot
  count-within =
      let n = ap (λ (g : Fields). g.count) e in
      let m = simp length-append at (ap (λ (g : Fields). length g.values) e) in
      omega (arith, length-words (line_fields l))

  pub fault-is : {a : Answer} → a ≡ (keypad_line (take f.count f.values)).answer → a ≡ line_fault l
  unfolding packed line_fault line_words to_slot
  fault-is y =
      let ws = field_words (line_fields l) in
      cc (
        ap (λ (g : Fields). g.count) e,
        ap (λ (g : Fields). g.values) e,
        take_at ws (replicate (slot_words - length ws) 0) (length (line_fields l))
            (length-words (line_fields l)),
      )

  pub line-writable : (s : List ℕ) (at : ℕ) {b : Bool} → length f.values ≡ slot_words → b ≡ bits_fit (8 * length s) at f.bits → b ≡ true
      → Writable (8 * length s) at f.count f.widths f.values
  unfolding packed to_slot
  line-writable s at h g k =
      let w : widths (fields_in f.count f.widths f.values) ≡ f.bits = ap widths fields-are ∙ sym (ap (λ (x : Fields). x.bits) e) in
      let y = fit-back (8 * length s) at f.bits (sym g ∙ k) in
      record {
        few = omega (arith, count-within);
        narrow = λ i. rw e (narrow_at (line_fields l) (slot_words - length (field_widths (line_fields l))) i (narrow line line-proper l [] tt));
        near = omega (arith, y.0);
        within = omega (arith, y.1);
      }

  pub line-unwritten : (s : List ℕ) (at : ℕ) {b : Bool} → b ≡ bits_fit (8 * length s) at f.bits → b ≡ false → LineWritten (bits_of s) at l (bits_of s) at
  unfolding past_line line_over
  line-unwritten s at g k =
      let y : bits_fit (length (bits_of s)) at (length (line_bits l)) ≡ false = cc (length-bits_of s, bits_are) in
      record { past = sym (rw y); leaves = sym (rw y) }

  pub line-written : (s t : List ℕ) (at p : ℕ) {b : Bool} → b ≡ bits_fit (8 * length s) at f.bits → b ≡ true
      → Wrote (bits_of s) at (fields_in f.count f.widths f.values) (bits_of t) p → LineWritten (bits_of s) at l (bits_of t) p
  unfolding past_line line_over line_bits line_before
  line-written s t at p g k w =
      let y : bits_fit (length (bits_of s)) at (length (line_bits l)) ≡ true = cc (length-bits_of s, bits_are) in
      record { past = rw y (cc (w.past, fields-are, length-line l)); leaves = rw y (cc (w.stands, fields-are)) }
