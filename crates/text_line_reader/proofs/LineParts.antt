-- One law for each way through the readers of a line. Assumes nothing.
use Prim.Native.Nat.{ℕ, ◌+◌}
use mathlib.Core.Path.{◌≡◌, sym, ap, ◌∙◌}
use mathlib.Core.Bool.{Bool, true, false}
use mathlib.Core.List.{List}
use mathlib.Core.Option.{some}
use Rattle.std.specs.Prelude.{Option, Some, None}
use lib.ListN.{drop}
use lib.Ieee.{Float}
use Rattle.base_laws.proofs.Choice.{cond-true, cond-false}
use Rattle.text_numerals.specs.inside.Reading.{number_from, name_from}
use Rattle.text_number_reader.specs.Results.{Starts, number_is, name_is}
use Rattle.text_number_reader.proofs.Bytes.{rest-drop}
use Rattle.score_line.specs.declared.LineRead.{LineRead}
use Rattle.text_format.specs.inside.Reading.{gap_from, colon_from, next_name, instr_from, event_from, labelled_from, timed_from, body_from, line_from}
use Rattle.text_elements.specs.Passing.{passed_is}
use Rattle.text_elements.proofs.Parts.{passed-at, passed-no}
use Rattle.text_event_reader.specs.Results.{line_told, at_time}
use Rattle.text_event_reader.proofs.Lists.{number_of, number-no}
use Rattle.text_event_reader.proofs.EventReaders.{name_of, name-no, none_told, as_line}
use Rattle.text_line_reader.specs.Labelled.{after_label}

module _ (s : List ℕ) (at : ℕ) (priority : Bool) where
  -- behind a label
  module _ (label : ℕ) {w : Option ℕ} (e : passed_is s w ≡ colon_from (drop at s)) where
    pub label-colon : w ≡ None → {r : Option (LineRead × ℕ)} → r ≡ None → r ≡ line_told s (after_label priority label (drop at s))
    label-colon f h = none_told s (after_label priority label (drop at s)) h (rw (passed-no s e f))

    module _ (p : ℕ) (f : w ≡ Some p) {a : Option (Float × ℕ)} (g : number_is s a ≡ number_from (drop p s)) where
      pub label-time : a ≡ None → {r : Option (LineRead × ℕ)} → r ≡ None → r ≡ line_told s (after_label priority label (drop at s))
      label-time i h = none_told s (after_label priority label (drop at s)) h (rw (passed-at s e f, number-no s g i))

      module _ (t : Float) (q : ℕ) (i : a ≡ Some (t, q)) {b : Option (ℕ × ℕ)} (j : name_is s b ≡ next_name (drop q s)) where
        pub label-name : b ≡ None → {r : Option (LineRead × ℕ)} → r ≡ None → r ≡ line_told s (after_label priority label (drop at s))
        label-name k h = none_told s (after_label priority label (drop at s)) h (rw (passed-at s e f, number_of s g i, name-no s j k))

        pub label-instr : (n o : ℕ) → b ≡ Some (n, o) → {r : Option (LineRead × ℕ)} → r ≡ line_told s (at_time priority t (instr_from (some label) n (drop o s)))
            → r ≡ line_told s (after_label priority label (drop at s))
        label-instr n o k h = as_line s (after_label priority label (drop at s)) (at_time priority t (instr_from (some label) n (drop o s))) (rw (passed-at s e f, number_of s g i, name_of s j k)) h

  -- a line that begins with its time
  module _ {a : Option (Float × ℕ)} (e : number_is s a ≡ number_from (drop at s)) where
    pub timed-number : a ≡ None → {r : Option (LineRead × ℕ)} → r ≡ None → r ≡ line_told s (timed_from priority (drop at s))
    unfolding timed_from
    timed-number f h = none_told s (timed_from priority (drop at s)) h (rw (number-no s e f))

    module _ (t : Float) (p : ℕ) (f : a ≡ Some (t, p)) {w : Option ℕ} (g : passed_is s w ≡ gap_from (drop p s)) where
      pub timed-gap : w ≡ None → {r : Option (LineRead × ℕ)} → r ≡ None → r ≡ line_told s (timed_from priority (drop at s))
      unfolding timed_from
      timed-gap i h = none_told s (timed_from priority (drop at s)) h (rw (number_of s e f, passed-no s g i))

      pub timed-event : (q : ℕ) → w ≡ Some q → {r : Option (LineRead × ℕ)} → r ≡ line_told s (at_time priority t (event_from (drop q s))) → r ≡ line_told s (timed_from priority (drop at s))
      unfolding timed_from
      timed-event q i h = as_line s (timed_from priority (drop at s)) (at_time priority t (event_from (drop q s))) (rw (number_of s e f, passed-at s g i)) h

  -- behind the star, or without one
  module _ {t : Bool} (g : Starts s at 115 t) where
    module _ (y : t ≡ true) {b : Option (ℕ × ℕ)} (e : name_is s b ≡ name_from (drop at s)) where
      pub body-name : b ≡ None → {r : Option (LineRead × ℕ)} → r ≡ None → r ≡ line_told s (body_from priority (drop at s))
      unfolding body_from labelled_from
      body-name f h = none_told s (body_from priority (drop at s)) h (rw (name-no s e f, sym g.is ∙ y))

      pub body-labelled : (n p : ℕ) → b ≡ Some (n, p) → {r : Option (LineRead × ℕ)} → r ≡ line_told s (after_label priority n (drop p s)) → r ≡ line_told s (body_from priority (drop at s))
      unfolding body_from labelled_from
      body-labelled n p f h = as_line s (body_from priority (drop at s)) (after_label priority n (drop p s)) (rw (name_of s e f, sym g.is ∙ y)) h

    pub body-timed : t ≡ false → {r : Option (LineRead × ℕ)} → r ≡ line_told s (timed_from priority (drop at s)) → r ≡ line_told s (body_from priority (drop at s))
    unfolding body_from
    body-timed y h = h ∙ ap (line_told s) (sym (cond-false _ _ (sym g.is ∙ y)))

module _ (s : List ℕ) (at : ℕ) {t : Bool} (g : Starts s at 42 t) {r : Option (LineRead × ℕ)} where
  pub line-starred : t ≡ true → r ≡ line_told s (body_from true (drop (at + 1) s)) → r ≡ line_told s (line_from (drop at s))
  unfolding line_from
  line-starred y h = h ∙ ap (λ (bs : List ℕ). line_told s (body_from true bs)) (sym (rest-drop s at)) ∙ ap (line_told s) (sym (cond-true _ _ (sym g.is ∙ y)))

  pub line_plain : t ≡ false → r ≡ line_told s (body_from false (drop at s)) → r ≡ line_told s (line_from (drop at s))
  unfolding line_from
  line_plain y h = h ∙ ap (line_told s) (sym (cond-false _ _ (sym g.is ∙ y)))
