-- A valid line is one that the code can hold. Assumes nothing.
use Prim.Native.Nat.{ℕ, zero, suc}
use mathlib.Core.Bool.{Bool, ◌&&◌}
use mathlib.Core.List.{List, [], ◌∷◌}
use lib.Dec.{T, eqb}
use lib.ListN.{length, take, drop}
use lib.Ieee.{Float, binary32, fits, to_bits}
use lib.Ieee.Fits.{and_l, and_r, and_i}
use Rattle.base_formats.specs.Format.{all}
use Rattle.base_formats.specs.Format as F
use Rattle.base_formats.specs.Description.{format, flag}
use Rattle.score_line.specs.LineFormat.{event_parts, kind_of, values_of, count_of, used, filled, in_range, float, number, timed, when, label, kind, labelled, body, counted, values, after_time, parts, is_zero, line, valid}
use Rattle.score_line.specs.declared.When.{When}
use Rattle.score_line.specs.declared.When.TheVariants.{Timed, Untimed}
use Rattle.score_line.specs.declared.Label.{Label}
use Rattle.score_line.specs.declared.Label.TheVariants.{Unlabelled, Labelled}
use Rattle.score_line.specs.declared.Range.{Range}
use Rattle.score_line.specs.declared.Range.TheVariants as range
use Rattle.score_line.specs.declared.Event.{Event}
use Rattle.score_line.specs.declared.Event.TheVariants.{Instr, Control, End, Tempo}
use Rattle.score_line.specs.declared.Line.{Line}
use Rattle.score_line_writer.specs.Stored.{is_symbol, stored_when, stored_label, stored_event, stored}

-- ---- tests, each weaker than another

pub and-map : (a b c d : Bool) → (T a → T c) → (T b → T d) → T (a && b) → T (c && d)
and-map a b c d f g h = and_i c d (f (and_l a b h)) (g (and_r a b h))

pub all_map : (f g : Float → Bool) → ((x : Float) → T (f x) → T (g x)) → (xs : List Float) → T (all f xs) → T (all g xs)
all_map f g h [] t = tt
all_map f g h (x ∷ xs) t = and-map (f x) (all f xs) (g x) (all g xs) (h x) (all_map f g h xs) t

-- ---- the parts of a line

-- a float in its range
float_stored : (r : Range) (x : Float) → T ((format (float r)).valid x) → T (fits binary32 x)
unfolding float
float_stored r x h = and_l (fits binary32 x) (in_range r (to_bits binary32 x)) h

when-stored : (w : When) → T ((format when).valid w) → T (stored_when w)
unfolding when timed
when-stored Untimed h = tt
when-stored (Timed late t) h = float_stored range.Time t (and_r ((format flag).valid late) ((format (float range.Time)).valid t) h)

label-stored : (l : Label) → T ((format label).valid l) → T (stored_label l)
unfolding label F.small
label-stored Unlabelled h = tt
label-stored (Labelled n) h = h

event-stored : (e : Event) → T ((format (body (kind_of e))).valid (event_parts e).1) → T (stored_event e)
unfolding body labelled F.small
event-stored (Instr l i d) h =
    let f = (format (float range.Duration)).valid d in
    and-map ((format label).valid l) (is_symbol i && f) (stored_label l) (is_symbol i && fits binary32 d) (label-stored l)
    (and-map (is_symbol i) f (is_symbol i) (fits binary32 d) (λ k. k) (float_stored range.Duration d)) h
event-stored (Control l v x) h =
    let f = (format (float range.Value)).valid x in
    and-map (is_symbol l) (is_symbol v && f) (is_symbol l) (is_symbol v && fits binary32 x) (λ k. k)
    (and-map (is_symbol v) f (is_symbol v) (fits binary32 x) (λ k. k) (float_stored range.Value x)) h
event-stored End h = tt
event-stored (Tempo x) h = float_stored range.Tempo x h

-- zeros behind the values in use
zeros-stored : (xs : List Float) → T (all is_zero xs) → T (all (fits binary32) xs)
unfolding is_zero
zeros-stored xs h = all_map is_zero (fits binary32) (λ x k. and_l (fits binary32 x) (eqb (to_bits binary32 x) 0) k) xs h

both-parts : (n : ℕ) (xs : List Float) → T (all (fits binary32) (take n xs)) → T (all (fits binary32) (drop n xs)) → T (all (fits binary32) xs)
both-parts zero xs h k = k
both-parts (suc n) [] h k = tt
both-parts (suc n) (x ∷ xs) h k =
    and-map (fits binary32 x) (all (fits binary32) (take n xs)) (fits binary32 x) (all (fits binary32) xs) (λ j. j) (λ j. both-parts n xs j k) h

values-stored : (e : Event) (n : ℕ) (xs : List Float) → T ((format (values (kind_of e))).valid (values_of (kind_of e) n xs))
    → T (all is_zero (drop (count_of (kind_of e) (values_of (kind_of e) n xs)) xs)) → T (all (fits binary32) xs)
unfolding values counted
values-stored (Instr l i d) n xs h k =
    let f = (format (float range.Value)).valid in
    let m = and_r ((format number).valid n) (eqb (length (take n xs)) n && all f (take n xs)) h in
    both-parts n xs (all_map f (fits binary32) (float_stored range.Value) (take n xs) (and_r (eqb (length (take n xs)) n) (all f (take n xs)) m))
    (zeros-stored (drop n xs) k)
values-stored (Control l v x) n xs h k = zeros-stored xs k
values-stored End n xs h k = zeros-stored xs k
values-stored (Tempo x) n xs h k = zeros-stored xs k

pub valid-stored : (l : Line) → T (valid l) → T (stored l)
unfolding line parts after_time kind
valid-stored l h =
    let k = kind_of l.event in
    let b = (format (body k)).valid (event_parts l.event).1 in
    let v = (format (values k)).valid (values_of k l.count l.values) in
    let w = (format when).valid l.when in
    let p = (format flag).valid l.priority in
    let z = all is_zero (drop (used l) l.values) in
    let long = eqb (length l.values) 8 in
    let f = and_l (filled l) (w && (p && (b && v))) h in
    let g = and_r (filled l) (w && (p && (b && v))) h in
    let m = and_r p (b && v) (and_r w (p && (b && v)) g) in
    let q = and_r (eqb l.count (used l)) z (and_r long (eqb l.count (used l) && z) f) in
    and_i (stored_when l.when) (stored_event l.event && (long && all (fits binary32) l.values)) (when-stored l.when (and_l w (p && (b && v)) g))
    (and_i (stored_event l.event) (long && all (fits binary32) l.values) (event-stored l.event (and_l b v m))
    (and_i long (all (fits binary32) l.values) (and_l long (eqb l.count (used l) && z) f) (values-stored l.event l.count l.values (and_r b v m) q)))
