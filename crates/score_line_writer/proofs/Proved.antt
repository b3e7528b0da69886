-- The round trips of a line. Assumes nothing.
use Prim.Native.Nat.{ℕ, ◌+◌, ◌^◌, ◌<◌, ◌≤◌}
use mathlib.Core.Path.{◌≡◌, refl, sym, ap, ap₂, ◌∙◌}
use mathlib.Core.Bool.{Bool, true, false, ◌&&◌, cond}
use mathlib.Core.List.{List, [], ◌++◌, append-nil}
use native.Mathlib.Nat.{add-zero, zero-add}
use native.Mathlib.Omega.{arith}
use borrow.Author.Tests.{eqb-true, eq-eqb}
use lib.Dec.{T, eqb, eqb→eq}
use lib.ListN.{length, get_or, drop, length-drop, take-append-drop}
use lib.Seq.{drop_at, drop-length}
use lib.Ieee.Fits.{and_l}
use Rattle.base_answer.specs.Numbers.{is_taken}
use Rattle.base_answer.specs.declared.Answer.TheVariants as answer
use Rattle.base_bitstream.specs.Fields.{farthest}
use Rattle.base_formats.specs.Format.{Source, bit_source, keypad_source, Read, got, refused, field_words, all}
use Rattle.base_formats.specs.inside.Lengths.{widths, length_of}
use Rattle.base_formats.specs.Description.{format}
use Rattle.base_formats.specs.declared.Fault.{Fault}
use Rattle.base_formats.specs.declared.Fault.TheVariants as fault
use Rattle.base_formats.proofs.Gives.{Gives, Bounded}
use Rattle.base_formats.proofs.InBits.{bits-bounded, bits-there, bits_back, length-bits, bits-append}
use Rattle.base_formats.proofs.InWords.{words-bounded, words-there, words_back, length-words}
use Rattle.base_formats.proofs.Descriptions.{sum-widths, sum-count, adds}
use Rattle.score_line.specs.LineFormat.{slot_words, is_zero, used, filled, parts_of, parts, line, valid}
use Rattle.score_line.specs.Reading.{line_from, answer_of, refused_line, line_read, line_at, line_in_words, whole_run, keypad_line}
use Rattle.score_line.specs.declared.Line.{Line}
use Rattle.score_line.specs.declared.LineRead.{LineRead}
use Rattle.score_line_writer.specs.Writing.{line_fields, line_before, line_bits, line_words}
use Rattle.score_line_writer.specs.Claims.{taken, BitsReadBack, WordsReadBack, BitsWrittenBack, WordsWrittenBack, BitsInjective}
use Rattle.score_line_writer.proofs.LineLaw.{line-law, line-most}

-- ---- what a result tells of the reading

pub read_taken : (x : Read Line) (l : Line) (p : ℕ) → line_read x ≡ taken l p → x ≡ got l p
unfolding line_read refused_line
read_taken (got m q) l p e = ap₂ (λ (y : Line) (z : ℕ). got y z) (ap (λ (r : LineRead). r.line) e) (ap (λ (r : LineRead). r.next) e)
read_taken (refused f) l p e = none f (ap (λ (r : LineRead). r.answer) e)
  where
    none : (g : Fault) → answer_of g ≡ answer.Taken → refused f ≡ got l p
    none fault.CutShort k = unfold answer_of in cc
    none fault.NotCarried k = unfold answer_of in cc
    none fault.OutOfRange k = unfold answer_of in cc
    none fault.TooManyValues k = unfold answer_of in cc

-- where a source gives a valid line's fields, that line is read
line-there : (s : Source) (at p : ℕ) (l : Line) → T (valid l) → Gives s at (line_fields l) p → line_from s at ≡ got l p
line-there s at p l h g = let f = line-law.there s at p l [] h g in cc

line-back : (s : Source) → Bounded s → (at : ℕ) (l : Line) (p : ℕ) → line_from s at ≡ got l p → T (valid l) × Gives s at (line_fields l) p
line-back s b at l p e = let k = rw e at (line-law.back s b at) in (k.is-valid, k.gives [] p refl)

-- ---- lengths

-- at least one bit, at most 367
pub line-wide : (l : Line) → length l.values ≡ 8 → (0 < widths (line_fields l)) × (widths (line_fields l) ≤ 367)
line-wide l h =
    let e : widths (line_fields l) ≡ length_of (λ w. w) line l + 0 = sym (sum-widths (line_fields l)) ∙ adds (λ w. w) line l [] in
    let m = line-most (λ w. w) l h in
    (omega (arith, m.0), omega (arith, m.1))

-- at most as many numbers as a slot has
pub line-few : (l : Line) → length l.values ≡ 8 → length (line_fields l) ≤ slot_words
line-few l h =
    let e : length (line_fields l) ≡ length_of (λ w. 1) line l + 0 = sym (sum-count (line_fields l)) ∙ adds (λ w. 1) line l [] in
    omega (arith, (line-most (λ w. 1) l h).1)

-- a valid line has eight places for values
pub values-long : (l : Line) → T (valid l) → length l.values ≡ 8
unfolding line
values-long l h =
    eqb→eq (length l.values) 8 (and_l (eqb (length l.values) 8) (eqb l.count (used l) && all is_zero (drop (used l) l.values))
    (and_l (filled l) ((format parts).valid (parts_of l)) h))

pub length-line : (l : Line) → length (line_bits l) ≡ widths (line_fields l)
unfolding line_bits line_before
length-line l = length-bits (line_fields l) [] ∙ add-zero (widths (line_fields l))

-- a line is at least 1 bit long, a valid one at most 367
pub line-long : (l : Line) → T (valid l) → (0 < length (line_bits l)) × (length (line_bits l) ≤ 367)
line-long l h = let w = line-wide l (values-long l h) in (omega (arith, length-line l, w.0), omega (arith, length-line l, w.1))

pub before-append : (l : Line) (rest : List Bool) → line_bits l ++ rest ≡ line_before l rest
unfolding line_bits line_before
before-append l rest = bits-append (line_fields l) [] rest

-- ---- bits

-- where a valid line's bits stand, it is read, and what follows it follows
pub line-here : (bits : List Bool) (at : ℕ) (l : Line) (rest : List Bool) → T (valid l) → at + length (line_bits l) ≤ farthest → drop at bits ≡ line_before l rest
    → (line_at bits at ≡ taken l (at + length (line_bits l))) × (drop (at + length (line_bits l)) bits ≡ rest)
unfolding line_at line_read line_before
line-here bits at l rest h near d =
    let g = bits-there bits (line_fields l) at (at + length (line_bits l)) rest near (ap (λ (k : ℕ). at + k) (sym (length-line l))) d in
    (ap line_read (line-there (bit_source bits) at (at + length (line_bits l)) l h g.0), g.1)

-- where a line is read, its bits stand
pub record LineHere (bits : List Bool) (at : ℕ) (l : Line) (p : ℕ) : Type 0 where
  pub is-valid : T (valid l)
  pub within : p ≤ length bits
  pub past : p ≡ at + length (line_bits l)
  pub here : drop at bits ≡ line_before l (drop p bits)

pub line-back-here : (bits : List Bool) (at : ℕ) (l : Line) (p : ℕ) → line_at bits at ≡ taken l p → LineHere bits at l p
unfolding line_at line_before
line-back-here bits at l p e =
    let b = line-back (bit_source bits) (bits-bounded bits) at l p (read_taken (line_from (bit_source bits) at) l p e) in
    let k = bits_back bits (line_fields l) at p (line-law.small l [] b.0 tt) b.1 in
    let w = line-wide l (values-long l b.0) in
    let m : at ≤ length bits = omega (arith, length-drop at bits, ap length k.here, length-bits (line_fields l) (drop p bits), w.0) in
    record { is-valid = b.0; within = k.room m; past = cc (length-line l); here = k.here }

pub bits-read-back : BitsReadBack
bits-read-back l before after h near =
    (line-here (before ++ (line_bits l ++ after)) (length before) l after h near (drop_at before (line_bits l ++ after) (length before) refl ∙ before-append l after)).0

pub bits-written-back : BitsWrittenBack
bits-written-back bits at l p e =
    let k = line-back-here bits at l p e in
    record { is-valid = k.is-valid; within = k.within; past = k.past; bits_are = cc (take-append-drop at bits, before-append l (drop p bits)) }

pub bits-injective : BitsInjective
bits-injective a b r t ha hb e =
    let la = line-long a ha in
    let lb = line-long b hb in
    let x = line-here (line_before a r) 0 a r ha (omega (arith, la.1)) refl in
    let y = line-here (line_before a r) 0 b t hb (omega (arith, lb.1)) e in
    let same = sym x.0 ∙ y.0 in
    let n = ap (λ (z : LineRead). z.next) same in
    (ap (λ (z : LineRead). z.line) same, cc)

-- ---- keypad numbers

-- a valid line's numbers, and whatever follows them, are read as that line
pub words-here : (words : List ℕ) (at : ℕ) (l : Line) (rest : List ℕ) → T (valid l) → drop at words ≡ line_words l ++ rest
    → line_in_words words at ≡ taken l (at + length (line_words l))
unfolding line_in_words line_read line_words
words-here words at l rest h d =
    ap line_read (line-there (keypad_source words) at (at + length (field_words (line_fields l))) l h
    (words-there words (line_fields l) at (at + length (field_words (line_fields l))) rest (ap (λ (k : ℕ). at + k) (sym (length-words (line_fields l)))) d))

pub words-back-here : (words : List ℕ) (at : ℕ) (l : Line) (p : ℕ) → ((i : ℕ) → get_or words i 0 < 2 ^ 32) → line_in_words words at ≡ taken l p
    → T (valid l) × (drop at words ≡ line_words l ++ drop p words) × (p ≡ at + length (line_words l))
unfolding line_in_words line_words
words-back-here words at l p h e =
    let b = line-back (keypad_source words) (words-bounded words h) at l p (read_taken (line_from (keypad_source words) at) l p e) in
    let k = words_back words (line_fields l) at p (line-law.small l [] b.0 tt) b.1 in
    (b.0, k.0, cc (length-words (line_fields l)))

pub whole-run : (l : Line) (n : ℕ) → whole_run n (taken l n) ≡ taken l n
unfolding whole_run
whole-run l n = rw (eq-eqb n n refl)

pub words-read-back : WordsReadBack
unfolding keypad_line
words-read-back l h =
    let n = length (line_words l) in
    cc (words-here (line_words l) 0 l [] h (sym (append-nil (line_words l))), zero-add n, whole-run l n)

-- a run that was taken whole
whole-taken : (n : ℕ) (r : LineRead) (l : Line) (p : ℕ) → whole_run n r ≡ taken l p → (r ≡ taken l p) × (p ≡ n)
unfolding whole_run refused_line
whole-taken n r l p e = go (is_taken r.answer) refl e
  where
    inner : (t : Bool) → eqb r.next n ≡ t → cond t r (refused_line answer.LeftOver) ≡ taken l p → (r ≡ taken l p) × (p ≡ n)
    inner true f k = (k, sym (ap (λ (x : LineRead). x.next) k) ∙ eqb-true r.next n f)
    inner false f k = absurd (let z : answer.LeftOver ≡ answer.Taken = ap (λ (x : LineRead). x.answer) k in let y : ◌≡◌ {A = ℕ} 0 1 = cc in omega arith)

    go : (t : Bool) → is_taken r.answer ≡ t → cond t (cond (eqb r.next n) r (refused_line answer.LeftOver)) r ≡ taken l p → (r ≡ taken l p) × (p ≡ n)
    go true f k = inner (eqb r.next n) refl k
    go false f k =
        absurd (let z : is_taken r.answer ≡ true = ap (λ (x : LineRead). is_taken x.answer) k in let y : true ≡ false = sym z ∙ f in mathlib.Core.Bool.true≢false y)

pub words-written-back : WordsWrittenBack
unfolding keypad_line
words-written-back words l p h e =
    let w = whole-taken (length words) (line_in_words words 0) l p e in
    let k = words-back-here words 0 l p h w.0 in
    (k.0, cc (drop-length words, append-nil (line_words l)))
