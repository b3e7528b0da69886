-- What reading meets in the fields of any line, valid or not. Assumes nothing.
use Prim.Native.Nat.{ℕ, ◌+◌, ◌≤◌}
use mathlib.Core.Path.{◌≡◌, refl, sym, ap, ap₂, ◌∙◌, subst}
use mathlib.Core.Bool.{Bool, false, cond}
use mathlib.Core.List.{List, [], ◌++◌, append-nil}
use native.Mathlib.Nat.{zero-add}
use native.Mathlib.Omega.{arith}
use lib.Dec.{T}
use lib.ListN.{length, take}
use lib.Seq.{drop_at}
use lib.Ieee.{Float}
use lib.Ieee.Fits.{and_i}
use Rattle.base_laws.proofs.Choice.{cond-true, cond-false}
use Rattle.base_answer.specs.Numbers.{number_of, is_taken}
use Rattle.base_answer.specs.declared.Answer.{Answer}
use Rattle.base_answer.specs.declared.Answer.TheVariants as answer
use Rattle.base_bitstream.specs.Fields.{farthest}
use Rattle.base_formats.specs.Format.{Source, bit_source, keypad_source, Read, got, refused, and_then, Field, field_bits, field_words}
use Rattle.base_formats.specs.Description.{format}
use Rattle.base_formats.specs.declared.Fault.{Fault}
use Rattle.base_formats.specs.declared.Fault.TheVariants as fault
use Rattle.base_formats.proofs.Gives.{Gives}
use Rattle.base_formats.proofs.InBits.{bits-there}
use Rattle.base_formats.proofs.InWords.{words-there, length-words}
use Rattle.base_formats.proofs.Descriptions.{Fate, valid-value, refused-value, law, fate}
use Rattle.score_line.specs.LineFormat.{when, values, values_of, kind_of, count_of, list_of, Parts, parts, filled, parts_of, line_with, padded, used, line, valid}
use Rattle.score_line.specs.Reading.{line_from, answer_of, refused_line, line_read, line_at, line_in_words, whole_run, keypad_line}
use Rattle.score_line.specs.declared.Event.{Event}
use Rattle.score_line.specs.declared.Event.TheVariants.{Instr, Control, End, Tempo}
use Rattle.score_line.specs.declared.Line.{Line}
use Rattle.score_line.specs.declared.LineRead.{LineRead}
use Rattle.score_line_writer.specs.Writing.{line_fields, line_bits, line_before, line_words, line_fault}
use Rattle.score_line_writer.specs.Claims.{taken, as_read, AnyRead, EveryLineRead, Normalized, EveryNormalized, FaultNumber, no-fault, out_of_range, too-many-values, FaultNumbers}
use Rattle.score_line_writer.specs.Stored.{stored, normalized}
use Rattle.score_line_writer.proofs.LineLaw.{parts-proper, event-again, line-proper, parts_held, Own, range-fault, values-fault, parts-raises}
use Rattle.score_line_writer.proofs.Proved.{length-line, before-append, whole-run}

-- ---- its faults are 3 and 5

own-number : (f : Fault) → Own f → FaultNumber (number_of (answer_of f))
unfolding answer_of
own-number f range-fault = out_of_range
own-number f values-fault = too-many-values

own-refuses : (f : Fault) → Own f → number_of (answer_of f) ≡ 0 → ⊥
unfolding answer_of
own-refuses f range-fault e = omega arith
own-refuses f values-fault e = omega arith

own-untaken : (f : Fault) → Own f → is_taken (answer_of f) ≡ false
unfolding answer_of
own-untaken f range-fault = refl
own-untaken f values-fault = refl

-- ---- what every source that gives its fields is answered

values-meant : (e : Event) (n : ℕ) (xs : List Float) → list_of (kind_of e) (values_of (kind_of e) n xs) ≡ take (count_of (kind_of e) (values_of (kind_of e) n xs)) xs
values-meant (Instr l i d) n xs = refl
values-meant (Control l i d) n xs = refl
values-meant End n xs = refl
values-meant (Tempo t) n xs = refl

meant_is : (l : Line) → line_with (parts_of l) ≡ normalized l
meant_is l i =
    record {
      when = l.when;
      priority = l.priority;
      event = event-again l.event i;
      count = used l;
      values = padded (values-meant l.event l.count l.values i);
    }

-- every source that gives its fields is answered so
abbrev Answers : Line → (ℕ → Read Line) → Type 0
Answers l result = (s : Source) (at p : ℕ) → Gives s at (line_fields l) p → line_from s at ≡ result p

data Answered (l : Line) : Type 0 where
  reads : Normalized l → Answers l (got (normalized l)) → Answered l
  fails : (f : Fault) → Own f → Answers l (λ p. refused f) → Answered l

made-valid : (x : Parts) → T ((format parts).valid x) → T (valid (line_with x))
unfolding line
made-valid x h =
    let v = line-proper.1 in
    and_i (filled (line_with x)) ((format parts).valid (parts_of (line_with x))) (v.admits x h) (subst (λ (y : Parts). T ((format parts).valid y)) (sym (v.back x h)) h)

made-fields : (l : Line) → T ((format parts).valid (parts_of l)) → line_fields (normalized l) ≡ line_fields l
unfolding line
made-fields l h =
    ap (λ (m : Line). (format parts).fields (parts_of m) []) (sym (meant_is l)) ∙ ap (λ (x : Parts). (format parts).fields x []) (line-proper.1.back (parts_of l) h)

made-meant : (l : Line) → T ((format parts).valid (parts_of l)) → Normalized l
unfolding line_bits line_before line_words
made-meant l h =
    record {
      is-valid = subst (λ (m : Line). T (valid m)) (meant_is l) (made-valid (parts_of l) h);
      same_bits = ap (λ (fs : List Field). field_bits fs []) (made-fields l h);
      same-words = ap field_words (made-fields l h);
    }

answered : (l : Line) → T (stored l) → Answered l
unfolding line
answered l h = go (fate Own parts parts-proper parts-raises (parts_of l) (parts_held l h))
  where
    go : Fate Own (format parts) (parts_of l) → Answered l
    go (valid-value k) = reads (made-meant l k) (λ s at p g.
        let f = (law parts parts-proper).there s at p (parts_of l) [] k g in
        ap (λ (x : Read _). and_then x (λ y q. got (line_with y) q)) f.is ∙ ap₂ (λ (m : Line) (q : ℕ). got m q) (meant_is l) f.then)
    go (refused-value r) = fails r.fault r.is (λ s at p g. ap (λ (x : Read _). and_then x (λ y q. got (line_with y) q)) (r.everywhere s at p [] g))

-- ---- among bits and as keypad numbers

module _ (l : Line) where
  gives-words : (after : List ℕ) → Gives (keypad_source (line_words l ++ after)) 0 (line_fields l) (length (line_words l))
  unfolding line_words
  gives-words after =
      let ws = field_words (line_fields l) in
      words-there (ws ++ after) (line_fields l) 0 (length ws) after (zero-add (length (line_fields l)) ∙ sym (length-words (line_fields l))) refl

  gives-alone : Gives (keypad_source (line_words l)) 0 (line_fields l) (length (line_words l))
  gives-alone = rw append-nil at (gives-words [])

  gives-bits : (before after : List Bool) → length before + length (line_bits l) ≤ farthest
      → Gives (bit_source (before ++ (line_bits l ++ after))) (length before) (line_fields l) (length before + length (line_bits l))
  unfolding line_before
  gives-bits before after near =
      (bits-there (before ++ (line_bits l ++ after)) (line_fields l) (length before) (length before + length (line_bits l)) after near
      (ap (λ (k : ℕ). length before + k) (sym (length-line l)))
      (drop_at before (line_bits l ++ after) (length before) refl ∙ before-append l after)).0

  module _ (result : ℕ → Read Line) (k : Answers l result) where
    words-run : keypad_line (line_words l) ≡ whole_run (length (line_words l)) (line_read (result (length (line_words l))))
    unfolding keypad_line line_in_words
    words-run = ap (λ (r : Read Line). whole_run (length (line_words l)) (line_read r)) (k (keypad_source (line_words l)) 0 (length (line_words l)) gives-alone)

    any-read : whole_run (length (line_words l)) (line_read (result (length (line_words l)))) ≡ line_read (result (length (line_words l)))
        → ((p : ℕ) → line_read (result p) ≡ as_read l p) → AnyRead l
    unfolding line_at line_in_words
    any-read whole same =
        record {
          in-bits = λ before after near. ap line_read (k (bit_source (before ++ (line_bits l ++ after))) (length before) _ (gives-bits before after near)) ∙ same _;
          in_words = λ after. ap line_read (k (keypad_source (line_words l ++ after)) 0 _ (gives-words after)) ∙ same _;
          alone = words-run ∙ whole ∙ same _;
        }

  fault-none : Answers l (got (normalized l)) → line_fault l ≡ answer.Taken
  unfolding line_fault line_read
  fault-none k = ap (λ (r : LineRead). r.answer) (words-run (got (normalized l)) k ∙ whole-run (normalized l) (length (line_words l)))

  fault-is : (f : Fault) → Own f → Answers l (λ p. refused f) → line_fault l ≡ answer_of f
  unfolding line_fault line_read refused_line whole_run
  fault-is f o k = ap (λ (r : LineRead). r.answer) (words-run (λ p. refused f) k ∙ cond-false _ _ (own-untaken f o))

pub every-line-read : EveryLineRead
every-line-read l h = go (answered l h)
  where
    go : Answered l → AnyRead l
    go (reads m k) = unfold line_read in any-read l (got (normalized l)) k (whole-run (normalized l) (length (line_words l))) (λ p. sym (cond-true _ _ (ap is_taken (fault-none l k))))
    go (fails f o k) =
        unfold line_read refused_line whole_run in
        any-read l (λ p. refused f) k (cond-false _ _ (own-untaken f o))
        (λ p. sym (ap (λ (a : Answer). cond (is_taken a) (taken (normalized l) p) (refused_line a)) (fault-is l f o k) ∙ cond-false _ _ (own-untaken f o)))

pub fault-numbers : FaultNumbers
fault-numbers l h = go (answered l h)
  where
    go : Answered l → FaultNumber (number_of (line_fault l))
    go (reads m k) = rw (fault-none l k) no-fault
    go (fails f o k) = rw (fault-is l f o k) (own-number f o)

pub every-normalized : EveryNormalized
every-normalized l h e = go (answered l h)
  where
    go : Answered l → Normalized l
    go (reads m k) = m
    go (fails f o k) = absurd (own-refuses f o (rw (fault-is l f o k) at e))
