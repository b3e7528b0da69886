-- The answers of a text: the numbers of a line are whole, so that no line is cut short. Assumes nothing.
use Prim.Native.Nat.{ℕ, suc, ◌+◌, ◌-◌, ◌≤◌, ◌<◌, min as lesser}
use native.Mathlib.Nat.{add-zero}
use native.Mathlib.Omega.{arith}
use mathlib.Core.Path.{◌≡◌, refl, sym, ap, ◌∙◌}
use mathlib.Core.Bool.{Bool, true, false, cond}
use mathlib.Core.List.{List, [], ◌∷◌, ◌++◌, map}
use mathlib.Core.Option.{Option, none, some}
use borrow.Author.Tests.{lt-ltb, leb-true}
use lib.Dec.{leb, eqb}
use lib.ListN.{length, get_or, drop, length-drop}
use lib.Seq.{drop-drop, get_or-drop}
use lib.Ieee.{Float, binary32, of_bits, to_bits, fits}
use Rattle.base_formats.specs.Format.{Source, keypad_source, Read, got, refused, and_then, number_from}
use Rattle.base_formats.specs.Format as F
use Rattle.base_formats.specs.Description.{Description, choose, pair, times, format}
use Rattle.base_formats.specs.declared.Fault.{Fault}
use Rattle.base_formats.specs.declared.Fault.TheVariants as fault
use Rattle.score_line.specs.LineFormat.{symbol, in_range, float, Body, Values, number, timed, when, label, Kind, instr, control, end, tempo, type_of, kind, labelled, body, counted, values, after_time, parts, line}
use Rattle.score_line.specs.declared.Range.{Range}
use Rattle.score_line.specs.declared.Range.TheVariants as range
use Rattle.score_reader.specs.Score.{Lines, all, faulty, before, line_then}
use Rattle.score_line.specs.declared.Line.{Line}
use Rattle.score_line.specs.Reading.{answer_of}
use Rattle.text_format.specs.Content.{Content, bits, flag, label_words, event_words, words_of, line_content, judged_from, judgement}
use Rattle.text_format.specs.Content as content
use Rattle.text_format.specs.inside.Reading.{Text, lines, bad, judged, lines_from, text_of}
use Rattle.text_format.specs.Claims.{TextAnswer, is-taken, not_carried, out_of_range, too-many-values, bad-text, TextAnswers}

-- ---- numbers that lie ahead of a source

Ahead : Source → ℕ → List ℕ → Type 0
Ahead s at [] = Unit {0}
Ahead s at (w ∷ ws) = ((width : ℕ) → number_from s width at ≡ got w (at + 1)) × Ahead s (at + 1) ws

ahead-here : (words : List ℕ) (at : ℕ) (ws : List ℕ) → drop at words ≡ ws → Ahead (keypad_source words) at ws
unfolding Ahead number_from keypad_source
ahead-here words at [] e = tt
ahead-here words at (w ∷ ws) e =
    let n : length words - at ≡ suc (length ws) = sym (length-drop at words) ∙ ap length e in
    let h : at < length words = omega arith in
    let g : get_or words at 0 ≡ w = ap (λ (k : ℕ). get_or words k 0) (sym (add-zero at)) ∙ sym (get_or-drop at words 0 0) ∙ ap (λ (l : List ℕ). get_or l 0 0) e in
    (λ width. rw (lt-ltb at (length words) h, g), ahead-here words (at + 1) ws (sym (drop-drop 1 at words) ∙ ap (drop 1) e))

-- ---- readings that are not cut short

-- what holds of what was read; a fault is one of a field
data Goes {A : Type 0} (P : A → ℕ → Type 0) : Read A → Type 0 where
  went : {a : A} {p : ℕ} → P a p → Goes P (got a p)
  stopped : {f : Fault} → TextAnswer (answer_of f) → Goes P (refused f)

-- these numbers are left
abbrev Leaves : {A : Type 0} → Source → List ℕ → A → ℕ → Type 0
Leaves s ws a p = Ahead s p ws

goes_then : {A B : Type 0} {P : A → ℕ → Type 0} {Q : B → ℕ → Type 0} {m : Read A} {k : A → ℕ → Read B} → Goes P m → ((a : A) (p : ℕ) → P a p → Goes Q (k a p))
    → Goes Q (and_then m k)
goes_then (went {a} {p} h) f = f a p h
goes_then (stopped u) f = stopped u

goes-test : {A : Type 0} {P : A → ℕ → Type 0} (t : Bool) (a : A) (p : ℕ) (g : Fault) → (t ≡ true → P a p) → TextAnswer (answer_of g)
    → Goes P (cond t (got a p) (refused g))
goes-test true a p g h u = went (h refl)
goes-test false a p g h u = stopped u

goes_on : {A : Type 0} {P Q : A → ℕ → Type 0} {m : Read A} → ((a : A) (p : ℕ) → P a p → Q a p) → Goes P m → Goes Q m
goes_on f (went {a} {p} h) = went (f a p h)
goes_on f (stopped u) = stopped u

module _ {A : Type 0} (s : Source) (at : ℕ) (U R : ℕ → Type 0) (d : F.Format A) where
  -- a pair of which the first part is known
  known-goes : {B : A → Type 0} (k : A) (e : (k : A) → F.Format (B k)) → Goes (λ a p. (a ≡ k) × U p) (d.from s at) → ((p : ℕ) → U p → Goes (λ b q. R q) ((e k).from s p))
      → Goes (λ x q. R q) ((F.choose d e).from s at)
  known-goes k e h f = goes_then h (λ a p r. rw r.0 (goes_then (f p r.1) (λ b q l. went l)))

  pair_goes : {B : Type 0} (e : F.Format B) → Goes (λ a p. U p) (d.from s at) → ((p : ℕ) → U p → Goes (λ b q. R q) (e.from s p))
      → Goes (λ x q. R q) ((F.choose {B = λ (a : A). B} d (λ a. e)).from s at)
  pair_goes e h f = goes_then h (λ a p r. goes_then (f p r) (λ b q l. went l))

module _ (s : Source) (at w : ℕ) (ws : List ℕ) (h : Ahead s at (w ∷ ws)) where
  number-goes : {B : Type 0} {Q : B → ℕ → Type 0} (width : ℕ) (k : ℕ → ℕ → Read B) → (Ahead s (at + 1) ws → Goes Q (k w (at + 1)))
      → Goes Q (and_then (number_from s width at) k)
  unfolding Ahead
  number-goes width k f = rw (h.0 width) (f h.1)

  field-goes : {A : Type 0} (width : ℕ) (test : ℕ → Bool) (g : Fault) (value : ℕ → A) (number : A → ℕ) (good : A → Bool) → TextAnswer (answer_of g)
      → Goes (λ a p. (a ≡ value w) × ((test w ≡ true) × Ahead s p ws)) ((F.field width test g value number good).from s at)
  field-goes width test g value number good u = number-goes width _ (λ r. goes-test (test w) (value w) (at + 1) g (λ e. (refl, (e, r))) u)

  small-goes : (width most : ℕ) → Goes (λ a p. (a ≡ w) × Ahead s p ws) ((F.small width most).from s at)
  unfolding F.small answer_of
  small-goes width most = goes_on (λ a p k. (k.0, k.1.1)) (field-goes width (λ v. leb v most) fault.OutOfRange (λ v. v) (λ v. v) (λ v. true) out_of_range)

  flag-goes : Goes (λ a p. (a ≡ eqb w 1) × Ahead s p ws) ((F.flag).from s at)
  flag-goes = goes_then (small-goes 1 1) (λ a p r. went (ap (λ (z : ℕ). eqb z 1) r.0, r.1))

  float-goes : (r : Range) → Goes (Leaves s ws) ((format (float r)).from s at)
  unfolding float answer_of
  float-goes r = goes_on (λ a p k. k.1.1) (field-goes 32 (in_range r) fault.OutOfRange (of_bits binary32) (to_bits binary32) (fits binary32) out_of_range)

  symbol-goes : Goes (Leaves s ws) ((format symbol).from s at)
  symbol-goes = goes_on (λ a p k. k.1) (small-goes 16 65535)

  -- a flag, and the one of two readings that it chooses
  chosen : {A : Type 0} {P : A → ℕ → Type 0} (set unset : ℕ → Read A) → ((p : ℕ) → Ahead s p ws → Goes P (cond (eqb w 1) (set p) (unset p)))
      → Goes P (and_then ((F.flag).from s at) (λ has p. cond has (set p) (unset p)))
  chosen set unset f = goes_then flag-goes (λ has p r. rw r.0 (f p r.1))

-- ---- the parts of a line

-- a control line has a label, an instr line at most 8 values
abbrev pub Readable : content.Event → Type 0
Readable (content.instr l name d vs) = length vs ≤ 8
Readable (content.control none name x) = ⊥
Readable (content.control (some l) name x) = Unit {0}
Readable (content.tempo x) = Unit {0}
Readable content.end = Unit {0}

-- the type and its fields
abbrev event : Description ((k : Kind) × (Body k × Values k))
event = choose {B = λ (k : Kind). Body k × Values k} kind (λ k. pair (body k) (values k))

module _ (s : Source) where
  -- one part behind another, and these numbers are left
  two-parts : {A B : Type 0} (at : ℕ) (us ws : List ℕ) (d : F.Format A) (e : F.Format B) → Goes (Leaves s us) (d.from s at)
      → ((p : ℕ) → Ahead s p us → Goes (Leaves s ws) (e.from s p))
      → Goes (Leaves s ws) ((F.choose {B = λ (a : A). B} d (λ a. e)).from s at)
  two-parts at us ws d e h f = pair_goes s at (λ p. Ahead s p us) (λ p. Ahead s p ws) d e h f

  when-goes : (at t : ℕ) (ws : List ℕ) → Ahead s at (1 ∷ (0 ∷ (t ∷ ws))) → Goes (Leaves s ws) ((format when).from s at)
  unfolding when timed
  when-goes at t ws h =
      goes_then (chosen s at 1 (0 ∷ (t ∷ ws)) h _ _ (λ p r.
      goes_then (two-parts p (t ∷ ws) ws F.flag (format (float range.Time)) (goes_on (λ a q k. k.1) (flag-goes s p 0 (t ∷ ws) r))
      (λ q k. float-goes s q t ws k range.Time))
      (λ a q k. went k))) (λ x p r. went r)

  label-goes : (at : ℕ) (l : Option ℕ) (ws : List ℕ) → Ahead s at (label_words l ++ ws) → Goes (Leaves s ws) ((format label).from s at)
  unfolding label
  label-goes at none ws h = goes_then (chosen s at 0 ws h _ _ (λ p r. went r)) (λ x p r. went r)
  label-goes at (some l) ws h = goes_then (chosen s at 1 (l ∷ ws) h _ _ (λ p r. goes_then (symbol-goes s p l ws r) (λ a q k. went k))) (λ x p r. went r)

  kind-goes : (at : ℕ) (k : Kind) (ws : List ℕ) → Ahead s at (type_of k ∷ ws) → Goes (λ a p. (a ≡ k) × Ahead s p ws) ((format kind).from s at)
  unfolding kind
  kind-goes at instr ws h = number-goes s at 0 ws h 3 _ (λ r. went (refl, r))
  kind-goes at control ws h = number-goes s at 1 ws h 3 _ (λ r. went (refl, r))
  kind-goes at end ws h = number-goes s at 4 ws h 3 _ (λ r. went (refl, r))
  kind-goes at tempo ws h = number-goes s at 5 ws h 3 _ (λ r. went (refl, r))

  -- a name and a float
  named-goes : (r : Range) (at name x : ℕ) (ws : List ℕ) → Ahead s at (name ∷ (x ∷ ws)) → Goes (Leaves s ws) ((format (pair symbol (float r))).from s at)
  named-goes r at name x ws h = two-parts at (x ∷ ws) ws (format symbol) (format (float r)) (symbol-goes s at name (x ∷ ws) h) (λ q k. float-goes s q x ws k r)

  instr-goes : (at name d : ℕ) (l : Option ℕ) (ws : List ℕ) → Ahead s at (label_words l ++ (name ∷ (d ∷ ws))) → Goes (Leaves s ws) ((format (body instr)).from s at)
  unfolding body
  instr-goes at name d l ws h =
      two-parts at (name ∷ (d ∷ ws)) ws (format label) (format (pair symbol (float range.Duration))) (label-goes at l (name ∷ (d ∷ ws)) h)
      (λ p r. named-goes range.Duration p name d ws r)

  labelled-goes : (at l name x : ℕ) (ws : List ℕ) → Ahead s at (l ∷ (name ∷ (x ∷ ws))) → Goes (Leaves s ws) ((format labelled).from s at)
  unfolding labelled
  labelled-goes at l name x ws h =
      two-parts at (name ∷ (x ∷ ws)) ws (format symbol) (format (pair symbol (float range.Value))) (symbol-goes s at l (name ∷ (x ∷ ws)) h)
      (λ p r. named-goes range.Value p name x ws r)

  times_goes : (vs : List Float) (at : ℕ) → Ahead s at (map bits vs) → Goes (Leaves s []) (F.times_from (format (float range.Value)) s (length vs) at)
  times_goes [] at h = went h
  times_goes (v ∷ vs) at h = goes_then (float-goes s at (bits v) (map bits vs) h range.Value) (λ x p r. goes_then (times_goes vs p r) (λ xs q k. went k))

  values-goes : (vs : List Float) (at : ℕ) → Ahead s at (length vs ∷ map bits vs) → Goes (λ a p. length vs ≤ 8) ((format (values instr)).from s at)
  unfolding values counted number answer_of
  values-goes vs at h =
      known-goes s at (λ p. (leb (length vs) 8 ≡ true) × Ahead s p (map bits vs)) (λ p. length vs ≤ 8) (format number) (length vs)
      (λ n. format (times n (float range.Value)))
      (field-goes s at (length vs) (map bits vs) h 8 (λ v. leb v 8) fault.TooManyValues (λ v. v) (λ n. lesser n 255) (λ n. true) too-many-values)
      (λ p r. goes_on (λ a q k. leb-true (length vs) 8 r.0) (times_goes vs p r.1))

  -- the type, its fields and its values
  kind-then : (at : ℕ) (k : Kind) (us : List ℕ) (M : ℕ → Type 0) (R : Type 0) → Ahead s at (type_of k ∷ us)
      → ((p : ℕ) → Ahead s p us → Goes (λ a q. M q) ((format (body k)).from s p))
      → ((p : ℕ) → M p → Goes (λ a q. R) ((format (values k)).from s p)) → Goes (λ a q. R) ((format event).from s at)
  kind-then at k us M R h f g =
      known-goes s at (λ p. Ahead s p us) (λ p. R) (format kind) k (λ k. format (pair (body k) (values k))) (kind-goes at k us h)
      (λ p r. pair_goes s p M (λ q. R) (format (body k)) (format (values k)) (f p r) g)

  no_label : (at : ℕ) (ws : List ℕ) → Ahead s at (0 ∷ ws) → Goes (λ a p. ⊥) ((format (body control)).from s at)
  unfolding body answer_of
  no_label at ws h = chosen s at 0 ws h _ _ (λ p r. stopped not_carried)

  with-label : (at l name x : ℕ) → Ahead s at (1 ∷ (l ∷ (name ∷ (x ∷ [])))) → Goes (λ a p. Unit {0}) ((format (body control)).from s at)
  unfolding body
  with-label at l name x h = chosen s at 1 (l ∷ (name ∷ (x ∷ []))) h _ _ (λ p r. goes_on (λ a q k. tt) (labelled-goes p l name x [] r))

  event-goes : (e : content.Event) (at : ℕ) → Ahead s at (event_words e) → Goes (λ a p. Readable e) ((format event).from s at)
  event-goes (content.instr l name d vs) at h =
      kind-then at instr _ (λ p. Ahead s p (length vs ∷ map bits vs)) _ h (λ p r. instr-goes p name (bits d) l _ r) (λ p r. values-goes vs p r)
  event-goes (content.control none name x) at h = kind-then at control _ (λ p. ⊥) _ h (λ p r. no_label p (name ∷ (bits x ∷ [])) r) (λ p r. absurd r)
  event-goes (content.control (some l) name x) at h = kind-then at control _ (λ p. Unit {0}) _ h (λ p r. with-label p l name (bits x) r) (λ p r. unfold values in went tt)
  event-goes (content.tempo t) at h =
      kind-then at tempo _ (λ p. Unit {0}) _ h (λ p r. unfold body in goes_on (λ a q k. tt) (float-goes s p (bits t) [] r range.Tempo)) (λ p r. unfold values in went tt)
  event-goes content.end at h = kind-then at end _ (λ p. Unit {0}) _ h (λ p r. unfold body in went tt) (λ p r. unfold values in went tt)

-- ---- a line, and a text

line-goes : (x : Content) → Goes (λ l p. Readable x.event) (line_content x)
unfolding line_content words_of line parts after_time
line-goes x =
    let s = keypad_source (words_of x) in
    let es = event_words x.event in
    let p = flag x.priority in
    goes_then
    (pair_goes s 0 (λ q. Ahead s q (p ∷ es)) (λ q. Readable x.event) (format when) (format after_time)
    (when-goes s 0 (bits x.time) (p ∷ es) (ahead-here (words_of x) 0 (words_of x) refl))
    (λ q r. pair_goes s q (λ o. Ahead s o es) (λ o. Readable x.event) F.flag (format event) (goes_on (λ a o k. k.1) (flag-goes s q p es r))
    (λ o k. event-goes s x.event o k)))
    (λ a q r. went r)

got-is : {A R : Type 0} {m : Read A} {a : A} {p : ℕ} → Goes (λ a p. R) m → m ≡ got a p → R
got-is (went h) e = h
got-is (stopped u) e = absurd (let z : ◌≡◌ {A = ℕ} 0 1 = cc in omega arith)

-- what is read as a line has a label where it is a control line, and at most 8 values
pub readable : (s : Content) {l : Line} {q : ℕ} → line_content s ≡ got l q → Readable s.event
readable s e = got-is (line-goes s) e

before-answer : (l : Line) (x : Lines) → TextAnswer (judgement x).answer → TextAnswer (judgement (before l x)).answer
before-answer l (all ls p) h = is-taken
before-answer l (faulty f i) h = h

then-answer : {P : Line → ℕ → Type 0} {m : Read Line} → Goes P m → (i : ℕ) (others : ℕ → Lines) → ((p : ℕ) → TextAnswer (judgement (others p)).answer)
    → TextAnswer (judgement (line_then m i others)).answer
then-answer (went {a} {p} h) i others f = before-answer a (others p) (f p)
then-answer (stopped u) i others f = u

judged-answers : (i : ℕ) (ss : List Content) → TextAnswer (judgement (judged_from i ss)).answer
unfolding judged_from
judged-answers i [] = is-taken
judged-answers i (s ∷ ss) = then-answer (line-goes s) i (λ p. judged_from (suc i) ss) (λ p. judged-answers (suc i) ss)

text-answer : (t : Text) → TextAnswer (judged t).answer
text-answer (lines ss) = judged-answers 0 ss
text-answer (bad i) = bad-text

pub text-answers : TextAnswers
unfolding text_of
text-answers bytes = text-answer (lines_from (length bytes) 0 bytes)
