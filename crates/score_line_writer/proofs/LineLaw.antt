-- What the line's format asks for the laws of all formats, and what they say of it. Assumes nothing.
use Prim.Native.Nat.{ℕ, zero, suc, ◌+◌, ◌-◌, ◌*◌, ◌^◌, ◌<◌, ◌≤◌, min as lesser}
use mathlib.Core.Path.{◌≡◌, refl, sym, ap, ◌∙◌, subst}
use mathlib.Core.Bool.{Bool, true, ◌&&◌}
use mathlib.Core.List.{List, [], ◌∷◌, ◌++◌}
use mathlib.Core.Option.{Option, none, some}
use native.Mathlib.Nat.{suc-mul}
use native.Mathlib.Omega.{arith}
use borrow.Author.Tests.{leb-true}
use lib.Dec.{T, eqb, leb, eqb→eq, leb→le}
use lib.ListN.{length, take, drop, replicate, length-append, length-replicate, length-take, length-drop, take-append-drop}
use lib.Seq.{take_at, drop_at, length-take-le}
use lib.Ieee.{Float, binary32, fits, of_bits, to_bits}
use lib.Ieee.Bits.{of_bits-fits, of_bits-to_bits, to_bits-lt}
use lib.Ieee.Fits.{and_i, and_l, and_r, eq→eqb}
use Rattle.base_timebase.specs.Time.{finite_bits}
use Rattle.base_timebase.proofs.RangesAndTicks.{pattern-back, time-finite, duration-finite, tempo-finite}
use Rattle.base_formats.specs.Format.{Format, all}
use Rattle.base_formats.specs.Format as F
use Rattle.base_formats.specs.Description.{format}
use Rattle.base_formats.specs.inside.Lengths.{times_length, length_of}
use Rattle.base_formats.specs.declared.Fault.{Fault}
use Rattle.base_formats.specs.declared.Fault.TheVariants as fault
use Rattle.base_formats.proofs.RoundTrips.{Law}
use Rattle.base_formats.proofs.Descriptions.{Views, Proper, Raises, Every, Held, law}
use Rattle.score_line.specs.LineFormat.{symbol, in_range, float, number, when_of, when_parts, timed, when, label_of, label_parts, label, Kind, instr, control, end, tempo, type_of, kinds, kind, Body, labelled, body, counted, Values, values, Parts, after_time, parts, event_of, event_parts, count_of, list_of, values_of, zero_float, padded, line_with, kind_of, parts_of, is_zero, used, filled, line}
use Rattle.score_line.specs.declared.When.{When}
use Rattle.score_line.specs.declared.When.TheVariants.{Timed, Untimed}
use Rattle.score_line.specs.declared.Label.{Label}
use Rattle.score_line.specs.declared.Label.TheVariants.{Unlabelled, Labelled}
use Rattle.score_line.specs.declared.Event.{Event}
use Rattle.score_line.specs.declared.Event.TheVariants.{Instr, Control, End, Tempo}
use Rattle.score_line.specs.declared.Line.{Line}
use Rattle.score_line.specs.declared.Range.{Range}
use Rattle.score_line.specs.declared.Range.TheVariants as range
use Rattle.score_line_writer.specs.Stored.{is_symbol, stored_when, stored_label, stored_event, stored}

-- ---- one field

symbol-proper : Proper symbol
symbol-proper = (omega arith, omega arith, omega arith)

finite-of : (r : Range) (b : ℕ) → in_range r b ≡ true → finite_bits b ≡ true
unfolding in_range
finite-of range.Time b e = time-finite b e
finite-of range.Duration b e = duration-finite b e
finite-of range.Tempo b e = tempo-finite b e
finite-of range.Value b e = e

float-proper : (r : Range) → Proper (float r)
unfolding float
float-proper r =
    record {
      some = omega arith;
      most = omega arith;
      small = λ x h t. to_bits-lt binary32 x h;
      again = λ x h t. of_bits-to_bits binary32 x h;
      good-value = λ v t. of_bits-fits binary32 v;
      back = λ v b t. pattern-back v (b refl) (finite-of r v t);
    }

number-proper : Proper number
unfolding number
number-proper =
    record {
      some = omega arith;
      most = omega arith;
      small = λ n x y. omega (arith, leb→le (lesser n 255) 8 y);
      again = λ n x y. omega (arith, leb→le (lesser n 255) 8 y);
      good-value = λ v t. tt;
      back = λ v b t. omega (arith, leb-true v 8 t);
    }

-- ---- parts

-- a view that loses nothing
same_view : {A B : Type 0} (into : A → B) (out : B → A) (f : Format A) → ((b : B) → into (out b) ≡ b) → ((a : A) → out (into a) ≡ a) → Views into out (λ b. true) f
same_view into out f again back = record { again = λ b h k. again b; back = λ a h. back a; admits = λ a h. tt }

when-again : (w : When) → when_of (when_parts w) ≡ w
when-again Untimed = refl
when-again (Timed late t) = refl

when-back : (x : Option (Bool × Float)) → when_parts (when_of x) ≡ x
when-back none = refl
when-back (some y) = refl

when-proper : Proper when
unfolding when timed
when-proper = (
  (tt, λ b. float-proper range.Time),
  same_view when_of when_parts _ when-again when-back,
)

label-again : (l : Label) → label_of (label_parts l) ≡ l
label-again Unlabelled = refl
label-again (Labelled n) = refl

label-back : (x : Option ℕ) → label_parts (label_of x) ≡ x
label-back none = refl
label-back (some n) = refl

label-proper : Proper label
unfolding label
label-proper = (symbol-proper, same_view label_of label_parts _ label-again label-back)

kind-below : (k : Kind) → type_of k < 2 ^ 3
kind-below instr = omega arith
kind-below control = omega arith
kind-below end = omega arith
kind-below tempo = omega arith

kind-listed : (k : Kind) → F.named type_of kinds (type_of k) ≡ some k
kind-listed instr = refl
kind-listed control = refl
kind-listed end = refl
kind-listed tempo = refl

kind-proper : Proper kind
unfolding kind
kind-proper =
    record {
      some_bits = omega arith;
      most-bits = omega arith;
      below = kind-below;
      listed = kind-listed;
    }

kind-parts-proper : (k : Kind) → Proper (body k) × Proper (values k)
unfolding body labelled values counted
kind-parts-proper instr = ((label-proper, λ l. (symbol-proper, λ i. float-proper range.Duration)), (number-proper, λ n. float-proper range.Value))
kind-parts-proper control = ((symbol-proper, λ l. (symbol-proper, λ v. float-proper range.Value)), tt)
kind-parts-proper end = (tt, tt)
kind-parts-proper tempo = (float-proper range.Tempo, tt)

pub parts-proper : Proper parts
unfolding parts after_time
parts-proper = (when-proper, λ w. (tt, λ b. (kind-proper, λ k. ((kind-parts-proper k).0, λ x. (kind-parts-proper k).1))))

-- ---- the places for values

zeros-valid : (n : ℕ) → T (all is_zero (replicate n zero_float))
unfolding is_zero of_bits to_bits fits
zeros-valid zero = tt
zeros-valid (suc n) = zeros-valid n

zero_is : (x : Float) → T (is_zero x) → x ≡ zero_float
unfolding is_zero
zero_is x h =
    let f = and_l (fits binary32 x) (eqb (to_bits binary32 x) 0) h in
    sym (of_bits-to_bits binary32 x f) ∙ ap (of_bits binary32) (eqb→eq (to_bits binary32 x) 0 (and_r (fits binary32 x) (eqb (to_bits binary32 x) 0) h))

zeros-are : (xs : List Float) → T (all is_zero xs) → xs ≡ replicate (length xs) zero_float
zeros-are [] h = refl
zeros-are (x ∷ xs) h = λ i. zero_is x (and_l (is_zero x) (all is_zero xs) h) i ∷ zeros-are xs (and_r (is_zero x) (all is_zero xs) h) i

-- the values in use, and the zeros behind them
whole-values : (n : ℕ) (xs : List Float) → length xs ≡ 8 → T (all is_zero (drop n xs)) → padded (take n xs) ≡ xs
unfolding padded
whole-values n xs m z =
    let d : length (drop n xs) ≡ 8 - length (take n xs) = omega (arith, length-drop n xs, length-take n xs) in
    ap (λ (ys : List Float). take n xs ++ ys) (sym (zeros-are (drop n xs) z ∙ ap (λ (j : ℕ). replicate j zero_float) d)) ∙ take-append-drop n xs

pub padded-long : (xs : List Float) → length xs ≤ 8 → length (padded xs) ≡ 8
unfolding padded
padded-long xs h = simp (length-append, length-replicate) (omega arith)

-- ---- the line and its parts

-- as many values as their number says, at most 8
record Few (n : ℕ) (xs : List Float) : Type 0 where
  count : length xs ≡ n
  few : n ≤ 8

values-few : (k : Kind) (v : Values k) → T ((format (values k)).valid v) → Few (count_of k v) (list_of k v)
unfolding values counted number
values-few instr v h =
    let p = leb (lesser v.0 255) 8 in
    let q = eqb (length v.1) v.0 in
    let r = all (format (float range.Value)).valid v.1 in
    record { count = eqb→eq (length v.1) v.0 (and_l q r (and_r p (q && r) h)); few = omega (arith, leb→le (lesser v.0 255) 8 (and_l p (q && r) h)) }
values-few control v h = record { count = refl; few = omega arith }
values-few end v h = record { count = refl; few = omega arith }
values-few tempo v h = record { count = refl; few = omega arith }

pub event-again : (e : Event) → event_of (event_parts e).0 (event_parts e).1 ≡ e
event-again (Instr l i d) = refl
event-again (Control l v x) = refl
event-again End = refl
event-again (Tempo t) = refl

module _ (w : When) (b : Bool) where
  parts-back : (k : Kind) (x : Body k) (v : Values k) → Few (count_of k v) (list_of k v) → parts_of (line_with (w, (b, (k, (x, v))))) ≡ (w, (b, (k, (x, v))))
  unfolding padded
  parts-back instr x v f = ap (λ (ys : List Float). (w, (b, (instr, (x, (v.0, ys)))))) (take_at v.1 (replicate (8 - length v.1) zero_float) v.0 f.count)
  parts-back control x v f = refl
  parts-back end x v f = refl
  parts-back tempo x v f = refl

  used-is : (k : Kind) (x : Body k) (v : Values k) → used (line_with (w, (b, (k, (x, v))))) ≡ count_of k v
  used-is instr x v = refl
  used-is control x v = refl
  used-is end x v = refl
  used-is tempo x v = refl

  parts-filled : (k : Kind) (x : Body k) (v : Values k) → Few (count_of k v) (list_of k v) → T (filled (line_with (w, (b, (k, (x, v))))))
  unfolding padded
  parts-filled k x v f =
      let m = line_with (w, (b, (k, (x, v)))) in
      let z = all is_zero (drop (used m) m.values) in
      let d = ap (λ (n : ℕ). drop n m.values) (used-is k x v) ∙ drop_at (list_of k v) (replicate (8 - length (list_of k v)) zero_float) (count_of k v) f.count in
      and_i (eqb (length m.values) 8) (eqb m.count (used m) && z) (eq→eqb (padded-long (list_of k v) (omega (arith, f.count, f.few))))
      (and_i (eqb m.count (used m)) z (eq→eqb (sym (used-is k x v))) (subst (λ (y : List Float). T (all is_zero y)) (sym d) (zeros-valid (8 - length (list_of k v)))))

parts-few : (x : Parts) → T ((format parts).valid x) → Few (count_of x.1.1.0 x.1.1.1.1) (list_of x.1.1.0 x.1.1.1.1)
unfolding parts after_time
parts-few x h =
    let k = x.1.1.0 in
    let v = (format (values k)).valid x.1.1.1.1 in
    let c = (format (body k)).valid x.1.1.1.0 && v in
    let t = (format kind).valid k && c in
    values-few k x.1.1.1.1 (and_r ((format (body k)).valid x.1.1.1.0) v
    (and_r ((format kind).valid k) c (and_r ((F.flag).valid x.1.0) t (and_r ((format when).valid x.0) ((F.flag).valid x.1.0 && t) h))))

-- the values of a line whose other places are zero
values-again : (e : Event) (n : ℕ) (xs : List Float) → length xs ≡ 8 → T (all is_zero (drop (count_of (kind_of e) (values_of (kind_of e) n xs)) xs))
    → padded (list_of (kind_of e) (values_of (kind_of e) n xs)) ≡ xs
values-again (Instr l i d) n xs m z = whole-values n xs m z
values-again (Control l i d) n xs m z = whole-values 0 xs m z
values-again End n xs m z = whole-values 0 xs m z
values-again (Tempo t) n xs m z = whole-values 0 xs m z

line-again : (l : Line) → T (filled l) → line_with (parts_of l) ≡ l
line-again l h i =
    let p = eqb (length l.values) 8 in
    let q = eqb l.count (used l) in
    let z = all is_zero (drop (used l) l.values) in
    let r = and_r p (q && z) h in
    record {
      when = l.when;
      priority = l.priority;
      event = event-again l.event i;
      count = sym (eqb→eq l.count (used l) (and_l q z r)) i;
      values = values-again l.event l.count l.values (eqb→eq (length l.values) 8 (and_l p (q && z) h)) (and_r q z r) i;
    }

pub line-proper : Proper line
unfolding line
line-proper = (
  parts-proper,
  record {
    again = λ l h k. line-again l h;
    back = λ x h. parts-back x.0 x.1.0 x.1.1.0 x.1.1.1.0 x.1.1.1.1 (parts-few x h);
    admits = λ x h. parts-filled x.0 x.1.0 x.1.1.0 x.1.1.1.0 x.1.1.1.1 (parts-few x h);
  },
)

pub line-law : Law (format line)
line-law = law line line-proper

-- ---- a stored line is one that its fields hold

symbol-held : (n : ℕ) → T (is_symbol n) → Held symbol n
symbol-held n h = let m = leb→le n 65535 h in omega arith

float-held : (r : Range) (x : Float) → T (fits binary32 x) → Held (float r) x
unfolding float
float-held r x h = (h, to_bits-lt binary32 x h)

when-held : (w : When) → T (stored_when w) → Held when w
unfolding when timed
when-held Untimed h = (tt, tt)
when-held (Timed late t) h = (tt, (tt, λ l. float-held range.Time t h))

label-held : (l : Label) → T (stored_label l) → Held label l
unfolding label
label-held Unlabelled h = (tt, tt)
label-held (Labelled n) h = (tt, symbol-held n h)

event-held : (e : Event) → T (stored_event e) → Held (body (kind_of e)) (event_parts e).1
unfolding body labelled
event-held (Instr l i d) h =
    let r = and_r (stored_label l) (is_symbol i && fits binary32 d) h in
    let m = label-held l (and_l (stored_label l) (is_symbol i && fits binary32 d) h) in
    (m, λ a. (symbol-held i (and_l (is_symbol i) (fits binary32 d) r), λ b. float-held range.Duration d (and_r (is_symbol i) (fits binary32 d) r)))
event-held (Control l i d) h =
    let r = and_r (is_symbol l) (is_symbol i && fits binary32 d) h in
    let m = symbol-held l (and_l (is_symbol l) (is_symbol i && fits binary32 d) h) in
    (m, λ a. (symbol-held i (and_l (is_symbol i) (fits binary32 d) r), λ b. float-held range.Value d (and_r (is_symbol i) (fits binary32 d) r)))
event-held End h = tt
event-held (Tempo t) h = float-held range.Tempo t h

floats-held : (n : ℕ) (xs : List Float) → T (all (fits binary32) xs) → Every (λ x. Held (float range.Value) x) (take n xs)
floats-held zero xs h = tt
floats-held (suc n) [] h = tt
floats-held (suc n) (x ∷ xs) h =
    (float-held range.Value x (and_l (fits binary32 x) (all (fits binary32) xs) h), floats-held n xs (and_r (fits binary32 x) (all (fits binary32) xs) h))

values-held : (k : Kind) (n : ℕ) (xs : List Float) → length xs ≡ 8 → T (all (fits binary32) xs) → Held (values k) (values_of k n xs)
unfolding values counted number
values-held instr n xs m h = ((tt, omega arith), λ l. (length-take-le n xs (omega (arith, leb→le (lesser n 255) 8 l)), floats-held n xs h))
values-held control n xs m h = tt
values-held end n xs m h = tt
values-held tempo n xs m h = tt

pub parts_held : (l : Line) → T (stored l) → Held parts (parts_of l)
unfolding parts after_time kind
parts_held l h =
    let n = eqb (length l.values) 8 in
    let v = all (fits binary32) l.values in
    let r = and_r (stored_when l.when) (stored_event l.event && (n && v)) h in
    let t = and_r (stored_event l.event) (n && v) r in
    let w = when-held l.when (and_l (stored_when l.when) (stored_event l.event && (n && v)) h) in
    let e = event-held l.event (and_l (stored_event l.event) (n && v) r) in
    let x = values-held (kind_of l.event) l.count l.values (eqb→eq (length l.values) 8 (and_l n v t)) (and_r n v t) in
    (w, λ a. (tt, λ b. (tt, λ c. (e, λ d. x))))

-- ---- the faults that its fields raise

pub data Own : Fault → Type 0 where
  range-fault : Own fault.OutOfRange
  values-fault : Own fault.TooManyValues

kind-parts-raise : (k : Kind) → Raises Own (body k) × Raises Own (values k)
unfolding body labelled label float values counted number
kind-parts-raise instr = ((range-fault, λ l. (range-fault, λ i. range-fault)), (values-fault, λ n. range-fault))
kind-parts-raise control = ((range-fault, λ l. (range-fault, λ i. range-fault)), tt)
kind-parts-raise end = (tt, tt)
kind-parts-raise tempo = (range-fault, tt)

pub parts-raises : Raises Own parts
unfolding parts after_time kind when timed float
parts-raises = ((tt, λ b. range-fault), λ w. (tt, λ b. (tt, λ k. ((kind-parts-raise k).0, λ x. (kind-parts-raise k).1))))

-- ---- how long a line is, each field counted by its width

module _ (c : ℕ → ℕ) where
  when-most : (w : When) → (c 1 ≤ length_of c when w) × (length_of c when w ≤ c 1 + (c 1 + c 32))
  unfolding when timed float
  when-most Untimed = (omega arith, omega arith)
  when-most (Timed late t) = (omega arith, omega arith)

  label-most : (l : Label) → length_of c label l ≤ c 1 + c 16
  unfolding label
  label-most Unlabelled = omega arith
  label-most (Labelled n) = omega arith

  body-most : (k : Kind) (x : Body k) → length_of c (body k) x ≤ c 1 + (c 16 + (c 16 + c 32))
  unfolding body labelled float
  body-most instr x = omega (arith, label-most x.0)
  body-most control x = omega arith
  body-most end x = omega arith
  body-most tempo x = omega arith

  floats-most : (xs : List Float) (n : ℕ) → length xs ≤ n → times_length (λ x. length_of c (float range.Value) x) xs ≤ n * c 32
  unfolding float
  floats-most [] n h = omega arith
  floats-most (x ∷ xs) zero h = absurd (omega arith)
  floats-most (x ∷ xs) (suc n) h = omega (arith, suc-mul n (c 32), floats-most xs n (omega arith))

  values-most : (k : Kind) (n : ℕ) (xs : List Float) → length xs ≡ 8 → length_of c (values k) (values_of k n xs) ≤ c 8 + 8 * c 32
  unfolding values counted number
  values-most instr n xs h = let m : length (take n xs) ≤ 8 = omega (arith, length-take n xs) in omega (arith, floats-most (take n xs) 8 m)
  values-most control n xs h = omega arith
  values-most end n xs h = omega arith
  values-most tempo n xs h = omega arith

  -- at least a flag; at most a timed instr line with a label and eight values
  pub line-most : (l : Line) → length l.values ≡ 8
      → (c 1 ≤ length_of c line l) × (length_of c line l ≤ (c 1 + (c 1 + c 32)) + (c 1 + (c 3 + ((c 1 + (c 16 + (c 16 + c 32))) + (c 8 + 8 * c 32)))))
  unfolding line parts after_time kind
  line-most l h =
      let k = kind_of l.event in
      let w = when-most l.when in
      (omega (arith, w.0), omega (arith, w.1, body-most k (event_parts l.event).1, values-most k l.count l.values h))
