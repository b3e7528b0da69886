-- The ways through the reader of a whole line, and the loop over its values. Assumes nothing.
use Prim.Native.Nat.{ℕ, suc, ◌+◌, ◌-◌, ◌<◌, ◌≤◌}
use mathlib.Core.Path.{◌≡◌, refl, sym, ap, ◌∙◌}
use mathlib.Core.Bool.{Bool, true, false}
use mathlib.Core.List.{List, [], ◌∷◌, ◌++◌, append-nil}
use native.Mathlib.Numerals.{add-one}
use native.Mathlib.Omega.{arith}
use borrow.Author.Tests.{lt-leb, le-leb, eq-eqb, ne_eqb}
use lib.Dec.{eqb}
use lib.ListN.{length, take, drop, set, replicate, length-set, take-append-drop}
use lib.Seq.{take-suc-set, drop-set-lt, drop-drop, append_snoc, length-take-le}
use lib.Ieee.{Float}
use Rattle.base_answer.specs.Numbers.{is_taken}
use Rattle.base_answer.specs.declared.Answer.TheVariants as answer
use Rattle.base_formats.specs.Format.{Source, Read, got, refused, and_then, number_from, named, found}
use Rattle.base_formats.specs.Description.{choose, pair, format}
use Rattle.base_formats.specs.declared.Fault.{Fault}
use Rattle.base_formats.specs.declared.Fault.TheVariants as fault
use Rattle.score_line.specs.inside.Reading.{part_is, small_from, float_from, when_from, event_from, values_from, as_event, with_values, after_count, after_event, after_when}
use Rattle.score_line.specs.Reading.{line_from, answer_of, refused_line, line_read, whole_run, line_in_words, keypad_line}
use Rattle.score_line.specs.declared.When.{When}
use Rattle.score_line.specs.declared.Label.{Label}
use Rattle.score_line.specs.declared.Event.{Event}
use Rattle.score_line.specs.declared.Event.TheVariants.{Instr, Control, End, Tempo}
use Rattle.score_line.specs.declared.Line.{Line}
use Rattle.score_line.specs.declared.LineRead.{LineRead}
use Rattle.score_line.specs.declared.Range.TheVariants as range
use Rattle.std.specs.Prelude.{Result, Ok, Err}
use Rattle.score_line.specs.LineFormat.{number as count, instr, control, end, tempo, Kind, Body, Values, type_of, kinds, kind, body, event_of, counted, values, line_with, zero_float, padded, after_time, parts, line}

pub then-then : {A B C : Type 0} (x : Read A) (f : A → ℕ → Read B) (k : B → ℕ → Read C) → and_then (and_then x f) k ≡ and_then x (λ a p. and_then (f a p) k)
then-then (got a p) f k = refl
then-then (refused g) f k = refl

-- ---- a line whose first values are known

-- the line with the values done, then those still to be read
abbrev with : When → Bool → Event → ℕ → List Float → Line
with w b e n xs = record { when = w; priority = b; event = e; count = n; values = padded xs }

abbrev onward : When → Bool → Event → ℕ → List Float → Read (List Float) → Read Line
onward w b e n done r = and_then r (λ xs q. got (with w b e n (done ++ xs)) q)

module _ (s : Source) (w : When) (b : Bool) (e : Event) where
  step : (n : ℕ) (done : List Float) (k p q : ℕ) (x : Float) → float_from s range.Value p ≡ got x q
      → onward w b e n done (values_from s (suc k) p) ≡ onward w b e n (done ++ (x ∷ [])) (values_from s k q)
  step n done k p q x h = rw h (go (values_from s k q))
    where
      go : (r : Read (List Float)) → onward w b e n done (and_then r (λ xs t. got (x ∷ xs) t)) ≡ onward w b e n (done ++ (x ∷ [])) r
      go (got xs t) = ap (λ (l : List Float). got (with w b e n l) t) (sym (append_snoc done x xs))
      go (refused f) = refl

  stop : (n : ℕ) (done : List Float) (k p : ℕ) (f : Fault) → float_from s range.Value p ≡ refused f → onward w b e n done (values_from s (suc k) p) ≡ refused f
  stop n done k p f h = rw h

  -- the loop: i values stand in the array, zeros behind them, and n - i are still to be read from p on
  pub record Filling (n at : ℕ) (values : List Float) (p i : ℕ) : Type 0 where
    pub within : i ≤ n
    pub long : length values ≡ 8
    pub rest : drop i values ≡ replicate (8 - i) zero_float
    pub same : onward w b e n (take i values) (values_from s (n - i) p) ≡ with_values w b e n (values_from s n at)

  pub starts : (n at : ℕ) → Filling n at (replicate 8 zero_float) at 0
  unfolding with_values
  starts n at =
      let h : n - 0 ≡ n = omega arith in
      record { within = omega arith; long = refl; rest = refl; same = rw h }

  zeros-on : (values : List Float) (i : ℕ) → i < 8 → length values ≡ 8 → drop i values ≡ replicate (8 - i) zero_float → drop (suc i) values ≡ replicate (8 - suc i) zero_float
  zeros-on values i h l z =
      let k : 8 - i ≡ suc (8 - suc i) = omega arith in
      ap (λ (j : ℕ). drop j values) (sym (add-one i)) ∙ sym (drop-drop 1 i values) ∙ ap (drop 1) (z ∙ ap (λ (j : ℕ). replicate j zero_float) k)

  pub again : (n at p i q : ℕ) (values : List Float) (x : Float) → n ≤ 8 → Filling n at values p i → i < n → got x q ≡ float_from s range.Value p
      → Filling n at (set values i x) q (i + 1)
  again n at p i q values x h f l g =
      let t = take-suc-set values i x (omega (arith, f.long)) in
      let m : n - i ≡ suc (n - (i + 1)) = omega arith in
      record {
        within = omega arith;
        long = length-set values i x ∙ f.long;
        rest = cc (add-one i, drop-set-lt (suc i) values i x (omega arith), zeros-on values i (omega arith) f.long f.rest);
        same = rw (add-one i, t) (sym (step n (take i values) (n - suc i) p q x (sym g)) ∙ rw (m, add-one i) at f.same);
      }

  pub stops : (n at p i : ℕ) (values : List Float) {g : Fault} → Filling n at values p i → i < n → refused g ≡ float_from s range.Value p → refused g ≡ with_values w b e n (values_from s n at)
  stops n at p i values {g} f l h =
      let m : n - i ≡ suc (n - (i + 1)) = omega arith in
      sym (stop n (take i values) (n - (i + 1)) p g (sym h)) ∙ rw m at f.same

  pub ends : (n at p i : ℕ) (values : List Float) → n ≤ 8 → Filling n at values p i → n ≤ i
      → got (record { when = w; priority = b; event = e; count = n; values = values }) p ≡ with_values w b e n (values_from s n at)
  unfolding padded
  ends n at p i values h f l =
      let m : n - i ≡ 0 = omega arith in
      let o : i ≡ n = omega (arith, f.within) in
      let t : length (take n values) ≡ n = length-take-le n values (omega (arith, f.long)) in
      let v : take n values ++ replicate (8 - length (take n values)) zero_float ≡ values =
      ap (λ (j : ℕ). take n values ++ replicate (8 - j) zero_float) t ∙ ap (λ (d : List Float). take n values ++ d) (sym (ap (λ (j : ℕ). drop j values) (sym o) ∙ f.rest ∙ ap (λ (j : ℕ). replicate (8 - j) zero_float) o)) ∙ take-append-drop n values in
      sym (
      sym (ap (λ (j : ℕ). onward w b e n (take i values) (values_from s j p)) (sym m) ∙ f.same)
      ∙ ap (λ (d : List Float). got (with w b e n d) p) (append-nil (take i values) ∙ ap (λ (j : ℕ). take j values) o)
      ∙ ap (λ (d : List Float). got (record { when = w; priority = b; event = e; count = n; values = d }) p) v)

  -- ---- the number of values

  pub counted-in : (at k p : ℕ) (x : Read Line) → got k p ≡ number_from s 8 at → k ≤ 8
      → x ≡ with_values w b e k (values_from s k p) → x ≡ after_count s w b e at
  unfolding after_count counted count with_values
  counted-in at k p x g h y = y ∙ sym (rw (sym g, le-leb _ _ h)
      (then-then (values_from s k p) (λ xs q. got (k, xs) q) (λ x q. got (with w b e x.0 x.1) q)))

  pub counted-many : (at k p : ℕ) → got k p ≡ number_from s 8 at → 8 < k → refused fault.TooManyValues ≡ after_count s w b e at
  unfolding after_count counted count with_values
  counted-many at k p g h = sym (rw (sym g, lt-leb _ _ h))

  pub counted-no : (at : ℕ) {c : Fault} → refused c ≡ number_from s 8 at → refused c ≡ after_count s w b e at
  unfolding after_count counted count with_values
  counted-no at g = sym (rw (sym g))

-- ---- past the event

module _ (s : Source) (w : When) (b : Bool) (at : ℕ) (e : Event) where
  pub event-instr : (l : Label) (i : ℕ) (d : Float) (x : Read Line) → e ≡ Instr l i d → x ≡ after_count s w b e at → x ≡ after_event s w b e at
  unfolding after_event values after_count with_values
  event-instr l i d x f y = y ∙ sym (rw f)

  pub event-other : (x : Read Line) → ((l : Label) (i : ℕ) (d : Float) → e ≡ Instr l i d → ⊥) → x ≡ with_values w b e 0 (got [] at) → x ≡ after_event s w b e at
  unfolding after_event values with_values
  event-other x f y = y ∙ go e f
    where
      go : (k : Event) → ((l : Label) (i : ℕ) (d : Float) → k ≡ Instr l i d → ⊥) → with_values w b k 0 (got [] at) ≡ after_event s w b k at
      go (Instr l i d) f = absurd (f l i d refl)
      go (Control l i d) f = refl
      go End f = refl
      go (Tempo t) f = refl

-- ---- priority, type, event

-- what follows the time, in the code's order
module _ (s : Source) (w : When) (b : Bool) where
  -- past the event of a kind
  past : (k : Kind) (h : Body k) (r : ℕ) → after_event s w b (event_of k h) r ≡ and_then ((format (values k)).from s r) (λ v q. got (line_with (w, (b, (k, (h, v))))) q)
  unfolding after_event
  past instr h r = refl
  past control h r = refl
  past end h r = refl
  past tempo h r = refl

  -- the parts that were read, put together one after the other
  abbrev joined : (k : Kind) → Read (Body k × Values k) → Read Line
  joined k x = and_then {A = Bool × ((k : Kind) × (Body k × Values k))} (and_then {A = (k : Kind) × (Body k × Values k)} (and_then x (λ y q. got (k, y) q)) (λ z q. got (b, z) q)) (λ y q. got (line_with (w, y)) q)

  body-after : (k : Kind) (p : ℕ) → joined k ((format (pair (body k) (values k))).from s p) ≡ and_then (as_event k ((format (body k)).from s p)) (λ e r. after_event s w b e r)
  body-after k p = go ((format (body k)).from s p)
    where
      flat : (h : Body k) (x : Read (Values k)) → joined k (and_then x (λ v r. got (h, v) r)) ≡ and_then x (λ v q. got (line_with (w, (b, (k, (h, v))))) q)
      flat h (got v r) = refl
      flat h (refused f) = refl

      go : (x : Read (Body k)) → joined k (and_then x (λ h q. and_then ((format (values k)).from s q) (λ v r. got (h, v) r))) ≡ and_then (as_event k x) (λ e r. after_event s w b e r)
      go (got h q) = flat h ((format (values k)).from s q) ∙ sym (past k h q)
      go (refused f) = refl

  abbrev after : Read Kind → Read Line
  after x = and_then {A = Bool × ((k : Kind) × (Body k × Values k))} (and_then {A = (k : Kind) × (Body k × Values k)} (and_then x (λ k p. and_then ((format (pair (body k) (values k))).from s p) (λ y q. got (k, y) q))) (λ z q. got (b, z) q)) (λ y q. got (line_with (w, y)) q)

  type-after : (at : ℕ)
      → and_then {A = Bool × ((k : Kind) × (Body k × Values k))} (and_then ((format (choose {B = λ (k : Kind). Body k × Values k} kind (λ k. pair (body k) (values k)))).from s at) (λ z q. got (b, z) q)) (λ y q. got (line_with (w, y)) q)
      ≡ and_then (number_from s 3 at) (λ n q. and_then (event_from s n q) (λ e r. after_event s w b e r))
  unfolding kind event_from
  type-after at = go (number_from s 3 at)
    where
      pick : (x : Read Kind) → after x ≡ and_then (and_then x (λ k p. as_event k ((format (body k)).from s p))) (λ e r. after_event s w b e r)
      pick (got k p) = body-after k p
      pick (refused f) = refl

      go : (x : Read ℕ) → after (and_then x (λ n p. found fault.NotCarried p (named type_of kinds n))) ≡ and_then x (λ n q. and_then (event_from s n q) (λ e r. after_event s w b e r))
      go (got n q) = pick (found fault.NotCarried q (named type_of kinds n))
      go (refused f) = refl

pub after-when : (s : Source) (w : When) (at : ℕ) → after_when s w at ≡ and_then (small_from s 1 1 at) (λ b p. and_then (number_from s 3 p) (λ n q. and_then (event_from s n q) (λ e r. after_event s w (eqb b 1) e r)))
unfolding after_when after_time
after-when s w at = go (small_from s 1 1 at)
  where
    go : (x : Read ℕ) → and_then {A = Bool × ((k : Kind) × (Body k × Values k))} (and_then (and_then x (λ v p. got (eqb v 1) p)) (λ b p. and_then ((format (choose {B = λ (k : Kind). Body k × Values k} kind (λ k. pair (body k) (values k)))).from s p) (λ z q. got (b, z) q))) (λ y q. got (line_with (w, y)) q)
        ≡ and_then x (λ b p. and_then (number_from s 3 p) (λ n q. and_then (event_from s n q) (λ e r. after_event s w (eqb b 1) e r)))
    go (got v p) = type-after s w (eqb v 1) p
    go (refused f) = refl

module _ (s : Source) (w : When) (at b p : ℕ) (f : got b p ≡ small_from s 1 1 at) where
  module _ (k q : ℕ) (h : got k q ≡ number_from s 3 p) where
    pub line-event : (t : ℕ) (e : Event) (x : Read Line) → got e t ≡ event_from s k q → x ≡ after_event s w (eqb b 1) e t → x ≡ after_when s w at
    line-event t e x j y = y ∙ sym (after-when s w at ∙ rw (sym f, sym h, sym j))

    pub line-event-no : {c : Fault} → refused c ≡ event_from s k q → refused c ≡ after_when s w at
    line-event-no j = sym (after-when s w at ∙ rw (sym f, sym h, sym j))

  pub line-type-no : {c : Fault} → refused c ≡ number_from s 3 p → refused c ≡ after_when s w at
  line-type-no h = sym (after-when s w at ∙ rw (sym f, sym h))

pub line-priority-no : (s : Source) (w : When) (at : ℕ) {c : Fault} → refused c ≡ small_from s 1 1 at → refused c ≡ after_when s w at
line-priority-no s w at f = sym (after-when s w at ∙ rw (sym f))

module _ (s : Source) (at : ℕ) where
  pub line-when : (w : When) (p : ℕ) (x : Read Line) → got w p ≡ when_from s at → x ≡ after_when s w p → x ≡ line_from s at
  unfolding line parts after_when
  line-when w p x f y = y ∙ sym (rw (sym f) (joins ((format after_time).from s p)))
    where
      joins : (x : Read (Bool × ((k : Kind) × (Body k × Values k)))) → and_then (and_then x (λ y q. got (w, y) q)) (λ y q. got (line_with y) q) ≡ and_then x (λ y q. got (line_with (w, y)) q)
      joins (got y q) = refl
      joins (refused f) = refl

  pub line-when-no : {c : Fault} → refused c ≡ when_from s at → refused c ≡ line_from s at
  unfolding line parts
  line-when-no f = sym (rw (sym f))

-- ---- a whole keypad line

module _ (words : List ℕ) (r : LineRead) (e : r ≡ line_in_words words 0) where
  pub run-whole : {b : Bool} → b ≡ is_taken r.answer → b ≡ true → r.next ≡ length words → r ≡ keypad_line words
  unfolding keypad_line whole_run
  run-whole f g h = cc (eq-eqb r.next (length words) h)

  pub run-longer : {b : Bool} {x : LineRead} → b ≡ is_taken r.answer → b ≡ true → (r.next ≡ length words → ⊥) → x ≡ refused_line answer.LeftOver → x ≡ keypad_line words
  unfolding keypad_line whole_run
  run-longer f g h y = cc (ne_eqb r.next (length words) h)

  pub run-refused : {b : Bool} → b ≡ is_taken r.answer → b ≡ false → r ≡ keypad_line words
  unfolding keypad_line whole_run
  run-refused f g = cc
