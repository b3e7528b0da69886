-- More than 8 values are refused before any of them is read: what stands behind their number does not matter. Assumes nothing.
use Prim.Native.Nat.{ℕ, ◌+◌, ◌-◌, ◌≤◌, ◌<◌, min as lesser}
use mathlib.Core.Path.{◌≡◌, refl, sym, ap, ap₂, ◌∙◌}
use mathlib.Core.Bool.{Bool, true, false, cond}
use mathlib.Core.List.{List, ◌∷◌, ◌++◌, map}
use mathlib.Core.Option.{Option, none, some}
use native.Mathlib.Omega.{arith}
use borrow.Author.Tests.{lt-ltb, lt-leb, leb-true, leb-false}
use lib.Dec.{leb}
use lib.ListN.{length, get_or, take, replicate, length-map}
use lib.Seq.{take_all, take_at}
use lib.Ieee.{Float}
use Rattle.base_timebase.specs.Time.{time_bits, duration_bits}
use Rattle.base_formats.specs.Format.{Source, keypad_source, Read, got, refused, and_then, number_from, small}
use Rattle.base_formats.specs.declared.Fault.{Fault}
use Rattle.base_formats.specs.declared.Fault.TheVariants.{OutOfRange, TooManyValues}
use Rattle.score_line.specs.Reading.{line_from, line_in_words, line_read}
use Rattle.score_line.specs.inside.Reading.{label_from, small_from}
use Rattle.score_line.specs.LineFormat.{in_range, float, number, timed, when, label, kind, body, counted, values, after_time, parts, line, label_of}
use Rattle.score_line.specs.declared.Label.{Label}
use Rattle.score_line.specs.declared.Label.TheVariants.{Labelled, Unlabelled}
use Rattle.score_line.specs.declared.Line.{Line}
use Rattle.text_format.specs.Content.{bits, flag, label_words, words_of, line_content}
use Rattle.text_format.specs.Content as content
use Rattle.text_format.specs.inside.Reading.{content_at}
use Rattle.text_content.specs.Judged.{judged_at, eight, kept_of, instr_numbers, instr_words}

-- ---- an instr line of too many values, from any source

record Headed (s : Source) (t : ℕ) (priority : Bool) (x : Read Label) (y : Read ℕ) (d c q r : ℕ) : Type 0 where
  has-time : small_from s 1 1 0 ≡ got 1 1
  late : small_from s 1 1 1 ≡ got 0 2
  time : number_from s 32 2 ≡ got t 3
  first : small_from s 1 1 3 ≡ got (flag priority) 4
  type : number_from s 3 4 ≡ got 0 5
  label_is : label_from s 5 ≡ x
  at_label : (L : Label) (p : ℕ) → x ≡ got L p → p ≡ q
  name-is : small_from s 16 65535 q ≡ y
  at_name : (name p : ℕ) → y ≡ got name p → p ≡ r
  duration : number_from s 32 r ≡ got d (r + 1)
  count : number_from s 8 (r + 1) ≡ got c (r + 2)

-- the first fault, whatever the values are
abbrev fault-in : ℕ → ℕ → Read Label → Read ℕ → Read Line
fault-in t d x y = cond (time_bits t) (and_then x (λ L q. and_then y (λ name r. cond (duration_bits d) (refused TooManyValues) (refused OutOfRange)))) (refused OutOfRange)

too_many : (s : Source) (t : ℕ) (priority : Bool) (L : Label) (name d c q r : ℕ) → 8 < c → Headed s t priority (got L q) (got name r) d c q r → time_bits t ≡ true
    → duration_bits d ≡ true
    → line_from s 0 ≡ refused TooManyValues
unfolding line parts when timed float in_range after_time kind body values counted number
too_many s t priority L name d c q r many h e v =
    rw (h.has-time, h.late, h.time, e, h.first, h.type, h.label_is, h.name-is, h.duration, v, h.count, lt-leb c 8 many)

refuses : (s : Source) (t : ℕ) (priority : Bool) (x : Read Label) (y : Read ℕ) (d c q r : ℕ) → 8 < c → Headed s t priority x y d c q r → line_from s 0 ≡ fault-in t d x y
unfolding line parts when timed float in_range after_time kind body
refuses s t priority x y d c q r many h = by-time (time_bits t) refl
  where
    by-duration : time_bits t ≡ true → (L : Label) (name : ℕ) → x ≡ got L q → y ≡ got name r → (b : Bool) → duration_bits d ≡ b
        → line_from s 0 ≡ cond b (refused TooManyValues) (refused OutOfRange)
    by-duration e L name g o true v = too_many s t priority L name d c q r many (rw (g, o) at h) e v
    by-duration e L name g o false v = rw (h.has-time, h.late, h.time, e, h.first, h.type, h.label_is, g, h.name-is, o, h.duration, v)

    by_name : time_bits t ≡ true → (L : Label) → x ≡ got L q → (z : Read ℕ) → y ≡ z
        → line_from s 0 ≡ and_then z (λ name p. cond (duration_bits d) (refused TooManyValues) (refused OutOfRange))
    by_name e L g (got name p) o = by-duration e L name g (o ∙ ap (got name) (h.at_name name p o)) (duration_bits d) refl
    by_name e L g (refused f) o = rw (h.has-time, h.late, h.time, e, h.first, h.type, h.label_is, g, h.name-is, o)

    by-label : time_bits t ≡ true → (z : Read Label) → x ≡ z
        → line_from s 0 ≡ and_then z (λ L p. and_then y (λ name p. cond (duration_bits d) (refused TooManyValues) (refused OutOfRange)))
    by-label e (got L p) g = by_name e L (g ∙ ap (got L) (h.at_label L p g)) y refl
    by-label e (refused f) g = rw (h.has-time, h.late, h.time, e, h.first, h.type, h.label_is, g)

    by-time : (b : Bool) → time_bits t ≡ b
        → line_from s 0 ≡ cond b (and_then x (λ L p. and_then y (λ name p. cond (duration_bits d) (refused TooManyValues) (refused OutOfRange)))) (refused OutOfRange)
    by-time true e = by-label e x refl
    by-time false e = rw (h.has-time, h.late, h.time, e)

-- ---- the same from keypad numbers

number_at : (ws : List ℕ) (width at : ℕ) → at < length ws → number_from (keypad_source ws) width at ≡ got (get_or ws at 0) (at + 1)
unfolding number_from keypad_source
number_at ws width at h = rw (lt-ltb at (length ws) h)

abbrev small-in : ℕ → ℕ → ℕ → Read ℕ
small-in most v p = cond (leb v most) (got v p) (refused OutOfRange)

small_at : (ws : List ℕ) (width most at : ℕ) → at < length ws → small_from (keypad_source ws) width most at ≡ small-in most (get_or ws at 0) (at + 1)
unfolding small
small_at ws width most at h = ap (λ (x : Read ℕ). and_then x (λ v p. small-in most v p)) (number_at ws width at h)

flag_small : (priority : Bool) → small-in 1 (flag priority) 4 ≡ got (flag priority) 4
flag_small true = refl
flag_small false = refl

small-past : (most v p name q : ℕ) → small-in most v p ≡ got name q → q ≡ p
small-past most v p name q e = go (leb v most) e
  where
    go : (b : Bool) → cond b (got v p) (refused OutOfRange) ≡ got name q → q ≡ p
    go true e = cc
    go false e = cc

abbrev labelled-in : ℕ → Read Label
labelled-in l = and_then (small-in 65535 l 7) (λ n p. got (Labelled n) p)

labelled-past : (l : ℕ) (L : Label) (p : ℕ) → labelled-in l ≡ got L p → p ≡ 7
labelled-past l L p e = go (leb l 65535) e
  where
    go : (b : Bool) → and_then (cond b (got l 7) (refused OutOfRange)) (λ n p. got (Labelled n) p) ≡ got L p → p ≡ 7
    go true e = cc
    go false e = cc

abbrev plain-words : ℕ → Bool → ℕ → ℕ → List ℕ → List ℕ
plain-words t priority name d vs = 1 ∷ (0 ∷ (t ∷ (flag priority ∷ (0 ∷ (0 ∷ (name ∷ (d ∷ vs)))))))

abbrev labelled-words : ℕ → Bool → ℕ → ℕ → ℕ → List ℕ → List ℕ
labelled-words t priority l name d vs = 1 ∷ (0 ∷ (t ∷ (flag priority ∷ (0 ∷ (1 ∷ (l ∷ (name ∷ (d ∷ vs))))))))

module _ (t name d : ℕ) (priority : Bool) (c : ℕ) (many : 8 < c) (vs : List ℕ) where
  plain-many : line_from (keypad_source (plain-words t priority name d (c ∷ vs))) 0 ≡ fault-in t d (got Unlabelled 6) (small-in 65535 name 7)
  unfolding label
  plain-many =
      let ws = plain-words t priority name d (c ∷ vs) in
      refuses (keypad_source ws) t priority (got Unlabelled 6) (small-in 65535 name 7) d c 6 7 many
      (record {
        has-time = small_at ws 1 1 0 (omega arith);
        late = small_at ws 1 1 1 (omega arith);
        time = number_at ws 32 2 (omega arith);
        first = small_at ws 1 1 3 (omega arith) ∙ flag_small priority;
        type = number_at ws 3 4 (omega arith);
        label_is = rw (small_at ws 1 1 5 (omega arith));
        at_label = λ L p e. cc;
        name-is = small_at ws 16 65535 6 (omega arith);
        at_name = λ m p e. small-past 65535 name 7 m p e;
        duration = number_at ws 32 7 (omega arith);
        count = number_at ws 8 8 (omega arith);
      })

  labelled-many : (l : ℕ) → line_from (keypad_source (labelled-words t priority l name d (c ∷ vs))) 0 ≡ fault-in t d (labelled-in l) (small-in 65535 name 8)
  unfolding label
  labelled-many l =
      let ws = labelled-words t priority l name d (c ∷ vs) in
      refuses (keypad_source ws) t priority (labelled-in l) (small-in 65535 name 8) d c 7 8 many
      (record {
        has-time = small_at ws 1 1 0 (omega arith);
        late = small_at ws 1 1 1 (omega arith);
        time = number_at ws 32 2 (omega arith);
        first = small_at ws 1 1 3 (omega arith) ∙ flag_small priority;
        type = number_at ws 3 4 (omega arith);
        label_is = rw (small_at ws 1 1 5 (omega arith), small_at ws 16 65535 6 (omega arith)) (some-label (leb l 65535));
        at_label = λ L p e. labelled-past l L p e;
        name-is = small_at ws 16 65535 7 (omega arith);
        at_name = λ m p e. small-past 65535 name 8 m p e;
        duration = number_at ws 32 8 (omega arith);
        count = number_at ws 8 9 (omega arith);
      })
    where
      some-label : (b : Bool)
          → and_then (and_then (cond b (got l 7) (refused OutOfRange)) (λ a q. got (some a) q)) (λ x q. got (label_of x) q)
          ≡ and_then (cond b (got l 7) (refused OutOfRange)) (λ n p. got (Labelled n) p)
      some-label true = refl
      some-label false = refl

-- ---- what was kept is judged as what was said

module _ (priority : Bool) (time : Float) (name : ℕ) (x : Float) (vs : List Float) where
  -- 8 values or fewer
  few-kept : length vs ≤ 8 → take (lesser (length vs) 9) (eight (take 8 (map bits vs))) ≡ map bits vs
  unfolding eight
  few-kept h =
      let n : length (map bits vs) ≡ length vs = length-map vs bits in
      let c : lesser (length vs) 9 ≡ length vs = omega arith in
      cc (take_all 8 (map bits vs) (omega arith), take_at (map bits vs) (replicate (8 - length (map bits vs)) 0) (length vs) n)

  few : (l : Option ℕ) → length vs ≤ 8 → instr_words priority time l name x (kept_of vs) ≡ words_of (content_at priority time (content.instr l name x vs))
  unfolding instr_words instr_numbers kept_of words_of
  few l h =
      let c : lesser (lesser (length vs) 9) 9 ≡ length vs = omega arith in
      ap₂ (λ (j : ℕ) (ws : List ℕ). 1 ∷ (0 ∷ (bits time ∷ (flag priority ∷ (0 ∷ (label_words l ++ (name ∷ (bits x ∷ (j ∷ ws))))))))) c (few-kept h)

  -- more than 8
  many : (l : Option ℕ) → 8 < length vs
      → line_from (keypad_source (instr_words priority time l name x (kept_of vs))) 0 ≡ line_content (content_at priority time (content.instr l name x vs))
  unfolding instr_words instr_numbers kept_of line_content words_of
  many none h =
      let c : 8 < lesser (lesser (length vs) 9) 9 = omega arith in
      plain-many (bits time) name (bits x) priority (lesser (lesser (length vs) 9) 9) c (take (lesser (length vs) 9) (eight (take 8 (map bits vs))))
      ∙ sym (plain-many (bits time) name (bits x) priority (length vs) h (map bits vs))
  many (some l) h =
      let c : 8 < lesser (lesser (length vs) 9) 9 = omega arith in
      labelled-many (bits time) name (bits x) priority (lesser (lesser (length vs) 9) 9) c (take (lesser (length vs) 9) (eight (take 8 (map bits vs)))) l
      ∙ sym (labelled-many (bits time) name (bits x) priority (length vs) h (map bits vs) l)

  pub instr-judged : (l : Option ℕ) → line_in_words (instr_words priority time l name x (kept_of vs)) 0 ≡ judged_at priority time (content.instr l name x vs)
  unfolding line_in_words judged_at line_content
  instr-judged l = ap line_read (go (leb (length vs) 8) refl)
    where
      go : (b : Bool) → leb (length vs) 8 ≡ b
          → line_from (keypad_source (instr_words priority time l name x (kept_of vs))) 0 ≡ line_content (content_at priority time (content.instr l name x vs))
      go true e = ap (λ (ws : List ℕ). line_from (keypad_source ws) 0) (few l (leb-true (length vs) 8 e))
      go false e = many l (leb-false (length vs) 8 e)
