-- One law for each way through the readers of a line's parts. Assumes nothing.
use Prim.Native.Nat.{ℕ, ◌+◌, ◌<◌, ◌≤◌}
use mathlib.Core.Path.{◌≡◌, refl, sym, ap, ◌∙◌}
use mathlib.Core.Bool.{cond}
use mathlib.Core.List.{List}
use native.Mathlib.Omega.{arith}
use borrow.Author.Tests.{leb-true, lt-ltb, le-ltb, le-leb, lt-leb, eq-eqb, ne_eqb}
use borrow.Table.Steps.{cases}
use lib.Dec.{eqb, leb}
use lib.ListN.{length, get_or}
use mir.Val.{Fits}
use mir.Syntax.{w16}
use lib.Ieee.{Float}
use Rattle.base_bitstream.specs.Bits.{bits_of}
use Rattle.base_bitstream.specs.Fields.{read_at}
use Rattle.base_timebase.specs.inside.Range.{checked}
use Rattle.base_timebase.proofs.RangesAndTicks.{checked-in, checked-out}
use Rattle.base_formats.specs.Format.{Source, bit_source, keypad_source, Read, got, refused, and_then, whole, number_from, small}
use Rattle.std.specs.Prelude.{Option, Some, None, Result, Ok, Err}
use Rattle.std.specs.Result.{IsErrAnd}
use Rattle.std.specs.Option.{ok_or}
use Rattle.std.proofs.lemmas.Result.{err_from_is_err_and}
use Rattle.base_formats.specs.declared.Fault.{Fault}
use Rattle.base_formats.specs.declared.Fault.TheVariants.{CutShort, NotCarried, OutOfRange}
use Rattle.score_line.specs.inside.Reading.{part_is, number_is, small_from, float_from, timed_from, when_from, label_from, instr_from, labelled_from, control_from, tempo_from, event_from}
use Rattle.score_line.specs.declared.When.{When}
use Rattle.score_line.specs.declared.When.TheVariants.{Timed, Untimed}
use Rattle.score_line.specs.declared.Label.{Label}
use Rattle.score_line.specs.declared.Label.TheVariants.{Unlabelled, Labelled}
use Rattle.score_line.specs.declared.Event.{Event}
use Rattle.score_line.specs.declared.Event.TheVariants.{Instr, Control, End, Tempo}
use Rattle.score_line.specs.declared.Range.{Range}
use Rattle.score_line.specs.declared.Range.TheVariants as range
use Rattle.score_line.specs.LineFormat.{in_range, float, timed, when, label, body, labelled}

-- ---- what `?` passes on, as a reading

pub passed : {A : Type 0} {g : Fault} {x : Read A} (r : Result (A × ℕ) Fault) → IsErrAnd r (λ y. y ≡ g) → refused g ≡ x → part_is r ≡ x
passed r e f = let p = err_from_is_err_and r e in rw (p.1, p.2) f

-- ---- what `ok_or` was given

some-given : {A : Type 0} (o : Option A) (x : A) (g : Fault) → Ok x ≡ ok_or o g → o ≡ Some x
some-given (Some y) x g e = cc
some-given None x g e = cc

none-given : {A : Type 0} (o : Option A) (f g : Fault) → Err f ≡ ok_or o g → (o ≡ None) × (f ≡ g)
none-given (Some y) f g e = (cc, cc)
none-given None f g e = (refl, cc)

-- ---- the two sources

module _ (width at : ℕ) where
  pub keypad-in : (words : List ℕ) → at < length words → got (get_or words at 0) (at + 1) ≡ number_from (keypad_source words) width at
  unfolding number_from keypad_source
  keypad-in words h = sym (rw (lt-ltb _ _ h))

  pub keypad-short : (words : List ℕ) → length words ≤ at → refused CutShort ≡ number_from (keypad_source words) width at
  unfolding number_from keypad_source
  keypad-short words h = sym (rw (le-ltb _ _ h))

  pub bits-gives : (bytes : List ℕ) (r : Result (ℕ × ℕ) Fault) (o : Option (ℕ × ℕ)) → o ≡ read_at (bits_of bytes) at width → r ≡ ok_or o CutShort → number_is r ≡ number_from (bit_source (bits_of bytes)) width at
  unfolding number_from bit_source
  bits-gives bytes r o e f = ap (λ (y : Result (ℕ × ℕ) Fault). number_is y) (f ∙ ap (λ (y : Option (ℕ × ℕ)). ok_or y CutShort) e) ∙ whole-is (read_at (bits_of bytes) at width)
    where
      whole-is : (y : Option (ℕ × ℕ)) → number_is (ok_or y CutShort) ≡ whole y
      whole-is (Some x) = refl
      whole-is None = refl

-- ---- ranges

pub range-is : (k r : Range) (b : ℕ) {x : Option Float} → r ≡ k → x ≡ checked (in_range k b) b → x ≡ checked (in_range r b) b
range-is k r b e f = f ∙ ap (λ (z : Range). checked (in_range z b) b) (sym e)

module _ (s : Source) where
  -- ---- numbers and floats

  pub small-in : (width most at v p : ℕ) → got v p ≡ number_from s width at → v ≤ most → got v p ≡ small_from s width most at
  unfolding small
  small-in width most at v p e h = sym (rw (sym e, le-leb _ _ h))

  pub small-out : (width most at v p : ℕ) → got v p ≡ number_from s width at → most < v → refused OutOfRange ≡ small_from s width most at
  unfolding small
  small-out width most at v p e h = sym (rw (sym e, lt-leb _ _ h))

  pub small-no : (width most at : ℕ) {g : Fault} → refused g ≡ number_from s width at → refused g ≡ small_from s width most at
  unfolding small
  small-no width most at e = sym (rw (sym e))

  -- a small number that was read is at most its bound
  pub small-bound : (width most at v p : ℕ) → got v p ≡ small_from s width most at → v ≤ most
  unfolding small
  small-bound width most at v p e = go (number_from s width at) (sym e)
    where
      go : (x : Read ℕ) → and_then x (λ u q. cond (leb u most) (got u q) (refused OutOfRange)) ≡ got v p → v ≤ most
      go (got u q) k = cases (leb u most) (λ h. let j = rw h at k in let z : u ≡ v = cc in omega (arith, leb-true u most h))
          (λ h. let j = rw h at k in absurd (let z : ◌≡◌ {A = ℕ} 0 1 = cc in omega arith))
      go (refused g) k = absurd (let z : ◌≡◌ {A = ℕ} 0 1 = cc in omega arith)

  pub symbol-fits : (at v p : ℕ) → got v p ≡ small_from s 16 65535 at → Fits w16 v
  symbol-fits at v p e = record { fits = omega (arith, small-bound 16 65535 at v p e) }

  module _ (r : Range) (at b p : ℕ) (e : got b p ≡ number_from s 32 at) {c : Option Float} (g : c ≡ checked (in_range r b) b) where
    pub float_in : (x : Float) → Ok x ≡ ok_or c OutOfRange → got x p ≡ float_from s r at
    unfolding float
    float_in x h = let k = checked-in (in_range r b) b x (sym g ∙ some-given c x OutOfRange h) in sym (rw (sym e, k.0, k.1))

    pub float_out : {y : Fault} → Err y ≡ ok_or c OutOfRange → refused y ≡ float_from s r at
    unfolding float
    float_out {y} h = let k = none-given c y OutOfRange h in sym (rw (sym e, checked-out (in_range r b) b (sym g ∙ k.0), k.1))

  pub float-no : (r : Range) (at : ℕ) {g : Fault} → refused g ≡ number_from s 32 at → refused g ≡ float_from s r at
  unfolding float
  float-no r at e = sym (rw (sym e))

  -- ---- use-if-late and the time

  module _ (at late p : ℕ) (e : got late p ≡ small_from s 1 1 at) where
    pub timed-in : (q : ℕ) (t : Float) → got t q ≡ float_from s range.Time p → got (Timed (eqb late 1) t) q ≡ timed_from s at
    unfolding timed_from timed
    timed-in q t h = sym (rw (sym e, sym h))

    pub timed-time : {x : Fault} → refused x ≡ float_from s range.Time p → refused x ≡ timed_from s at
    unfolding timed_from timed
    timed-time h = sym (rw (sym e, sym h))

  -- ---- a flag: has-time, has-label, and a control line's

  module _ (at has p : ℕ) (e : got has p ≡ small_from s 1 1 at) where
    module _ (h : has ≡ 1) where
      pub when-timed : (w : Read When) → w ≡ timed_from s p → w ≡ when_from s at
      unfolding when timed_from
      when-timed w g = g ∙ sym (rw (sym e, eq-eqb _ _ h))

      pub labelled-in : (l q : ℕ) → got l q ≡ small_from s 16 65535 p → got (Labelled l) q ≡ label_from s at
      unfolding label
      labelled-in l q g = sym (rw (sym e, eq-eqb _ _ h, sym g))

      pub labelled-no : {x : Fault} → refused x ≡ small_from s 16 65535 p → refused x ≡ label_from s at
      unfolding label
      labelled-no g = sym (rw (sym e, eq-eqb _ _ h, sym g))

      pub control-labelled : (w : Read Event) → w ≡ labelled_from s p → w ≡ control_from s at
      unfolding control_from body labelled_from
      control-labelled w g = g ∙ sym (rw (sym e, eq-eqb _ _ h))

    module _ (h : has ≡ 1 → ⊥) where
      pub when-untimed : got Untimed p ≡ when_from s at
      unfolding when timed_from
      when-untimed = sym (rw (sym e, ne_eqb _ _ h))

      pub unlabelled : got Unlabelled p ≡ label_from s at
      unfolding label
      unlabelled = sym (rw (sym e, ne_eqb _ _ h))

      pub control-unlabelled : refused NotCarried ≡ control_from s at
      unfolding control_from body labelled_from
      control-unlabelled = sym (rw (sym e, ne_eqb _ _ h))

  module _ (at : ℕ) {x : Fault} (e : refused x ≡ small_from s 1 1 at) where
    pub timed-late : refused x ≡ timed_from s at
    unfolding timed_from timed
    timed-late = sym (rw (sym e))

    pub when-no : refused x ≡ when_from s at
    unfolding when timed_from
    when-no = sym (rw (sym e))

    pub label-none : refused x ≡ label_from s at
    unfolding label
    label-none = sym (rw (sym e))

    pub control-no : refused x ≡ control_from s at
    unfolding control_from body labelled_from
    control-no = sym (rw (sym e))

  -- ---- instr

  module _ (at p : ℕ) (l : Label) (e : got l p ≡ label_from s at) where
    module _ (i q : ℕ) (h : got i q ≡ small_from s 16 65535 p) where
      pub instr-in : (r : ℕ) (d : Float) → got d r ≡ float_from s range.Duration q → got (Instr l i d) r ≡ instr_from s at
      unfolding instr_from body
      instr-in r d k = sym (rw (sym e, sym h, sym k))

      pub instr-duration : {y : Fault} → refused y ≡ float_from s range.Duration q → refused y ≡ instr_from s at
      unfolding instr_from body
      instr-duration k = sym (rw (sym e, sym h, sym k))

    pub instr-instrument : {y : Fault} → refused y ≡ small_from s 16 65535 p → refused y ≡ instr_from s at
    unfolding instr_from body
    instr-instrument h = sym (rw (sym e, sym h))

  pub instr-label : (at : ℕ) {y : Fault} → refused y ≡ label_from s at → refused y ≡ instr_from s at
  unfolding instr_from body
  instr-label at e = sym (rw (sym e))

  -- ---- control

  module _ (at l p : ℕ) (e : got l p ≡ small_from s 16 65535 at) where
    module _ (i q : ℕ) (h : got i q ≡ small_from s 16 65535 p) where
      pub control-in : (r : ℕ) (d : Float) → got d r ≡ float_from s range.Value q → got (Control l i d) r ≡ labelled_from s at
      unfolding labelled_from labelled
      control-in r d k = sym (rw (sym e, sym h, sym k))

      pub control-value : {y : Fault} → refused y ≡ float_from s range.Value q → refused y ≡ labelled_from s at
      unfolding labelled_from labelled
      control-value k = sym (rw (sym e, sym h, sym k))

    pub control-variable : {y : Fault} → refused y ≡ small_from s 16 65535 p → refused y ≡ labelled_from s at
    unfolding labelled_from labelled
    control-variable h = sym (rw (sym e, sym h))

  pub control-label : (at : ℕ) {y : Fault} → refused y ≡ small_from s 16 65535 at → refused y ≡ labelled_from s at
  unfolding labelled_from labelled
  control-label at e = sym (rw (sym e))

  -- ---- tempo, and the event of a type

  pub tempo-in : (at p : ℕ) (t : Float) → got t p ≡ float_from s range.Tempo at → got (Tempo t) p ≡ tempo_from s at
  unfolding tempo_from body
  tempo-in at p t e = sym (rw (sym e))

  pub tempo-no : (at : ℕ) {y : Fault} → refused y ≡ float_from s range.Tempo at → refused y ≡ tempo_from s at
  unfolding tempo_from body
  tempo-no at e = sym (rw (sym e))

  pub type-0 : (type at : ℕ) {w : Read Event} → type ≡ 0 → w ≡ instr_from s at → w ≡ event_from s type at
  unfolding event_from instr_from control_from tempo_from body
  type-0 type at h e = e ∙ sym (rw (eq-eqb _ _ h))

  pub type-1 : (type at : ℕ) {w : Read Event} → type ≡ 1 → w ≡ control_from s at → w ≡ event_from s type at
  unfolding event_from instr_from control_from tempo_from body
  type-1 type at h e = e ∙ sym (rw h)

  pub type-4 : (type at : ℕ) → type ≡ 4 → got End at ≡ event_from s type at
  unfolding event_from instr_from control_from tempo_from body
  type-4 type at h = sym (rw h)

  pub type-5 : (type at : ℕ) {w : Read Event} → type ≡ 5 → w ≡ tempo_from s at → w ≡ event_from s type at
  unfolding event_from instr_from control_from tempo_from body
  type-5 type at h e = e ∙ sym (rw h)

  pub type-other : (type at : ℕ) → (type ≡ 0 → ⊥) → (type ≡ 1 → ⊥) → (type ≡ 4 → ⊥) → (type ≡ 5 → ⊥) → refused NotCarried ≡ event_from s type at
  unfolding event_from instr_from control_from tempo_from body
  type-other type at a b c d = sym (rw (ne_eqb _ _ a, ne_eqb _ _ b, ne_eqb _ _ c, ne_eqb _ _ d))
