-- One law for each way through the readers of an event. Assumes nothing.
use Prim.Native.Nat.{ℕ, ◌+◌}
use mathlib.Core.Path.{◌≡◌, refl, sym, ap, ◌∙◌}
use mathlib.Core.Bool.{Bool, true, false, cond}
use mathlib.Core.List.{List}
use mathlib.Core.Option.{Option as Label, none, some}
use lib.ListN.{length, drop}
use lib.Ieee.{Float}
use Rattle.base_laws.proofs.Choice.{cond-true, cond-false}
use Rattle.text_numerals.specs.inside.Reading.{Read, got, refused, and_then, starts_with, rest, name_from}
use Rattle.std.specs.Prelude.{Option, Some, None}
use Rattle.std.proofs.lemmas.Option.{same_Some, none-some}
use Rattle.text_content.specs.declared.ValueBits.{ValueBits}
use Rattle.text_number_reader.specs.Results.{Starts, number_is, name_is}
use Rattle.score_line.specs.Reading.{line_read, line_in_words}
use Rattle.score_line.specs.declared.LineRead.{LineRead}
use Rattle.text_format.specs.Content.{Content, line_content}
use Rattle.text_format.specs.Content as content
use Rattle.text_format.specs.Form.{control_word, tempo_word, end_word}
use Rattle.text_format.specs.inside.Reading.{gap_from, word_from, ending, next_name, next_number, values_from, instr_from, control_from, tempo_from, end_from, named_from, event_from, content_at}
use Rattle.text_content.specs.Judged.{kept_of, judged_at, instr_words}
use Rattle.text_content.proofs.Many.{instr-judged}
use Rattle.text_elements.specs.Passing.{passed_is}
use Rattle.text_event_reader.specs.Results.{position, values_told, line_told, ended_at, at_time, setting_from}
use Rattle.text_elements.proofs.Parts.{passed-at, passed-no}
use Rattle.text_event_reader.proofs.Lists.{number_of, number-no, next-position}

-- ---- what a call gave

pub name_of : (s : List ℕ) {x : Read ℕ} {r : Option (ℕ × ℕ)} {v p : ℕ} → name_is s r ≡ x → r ≡ Some (v, p) → x ≡ got v (drop p s)
name_of s e f = sym e ∙ ap (name_is s) f

pub name-no : (s : List ℕ) {x : Read ℕ} {r : Option (ℕ × ℕ)} → name_is s r ≡ x → r ≡ None → x ≡ refused
name-no s e f = sym e ∙ ap (name_is s) f

-- no line where nothing was read
pub none_told : (s : List ℕ) (x : Read Content) {r : Option (LineRead × ℕ)} → r ≡ None → x ≡ refused → r ≡ line_told s x
unfolding line_told
none_told s x e f = e ∙ ap (line_told s) (sym f)

-- one reading is another
pub as_line : (s : List ℕ) (x y : Read Content) {r : Option (LineRead × ℕ)} → x ≡ y → r ≡ line_told s y → r ≡ line_told s x
as_line s x y e h = h ∙ ap (line_told s) (sym e)

-- ---- the end of a line

module _ (s : List ℕ) (at : ℕ) (read : LineRead) {t : Bool} (g : Starts s at 10 t) where
  pub ended_here : t ≡ true → Some (read, at + 1) ≡ ended_at s read (drop at s)
  unfolding ended_at
  ended_here y = ap (λ (p : ℕ). Some (read, p)) (next-position s at (g.within y)) ∙ sym (cond-true _ _ (sym g.is ∙ y))

  pub ended-not : t ≡ false → {r : Option (LineRead × ℕ)} → r ≡ None → r ≡ ended_at s read (drop at s)
  unfolding ended_at
  ended-not y e = e ∙ sym (cond-false _ _ (sym g.is ∙ y))

module _ (s : List ℕ) (priority : Bool) (time : Float) where
  abbrev told : Read content.Event → Option (LineRead × ℕ)
  told x = line_told s (at_time priority time x)

  none-at : (x : Read content.Event) {r : Option (LineRead × ℕ)} → r ≡ None → x ≡ refused → r ≡ told x
  none-at x e f = none_told s (at_time priority time x) e (ap (at_time priority time) f)

  ended-told : (e : content.Event) (bs : List ℕ) → ended_at s (judged_at priority time e) bs ≡ told (ending e bs)
  unfolding ended_at ending line_told judged_at
  ended-told e bs = go (starts_with 10 bs)
    where
      go : (b : Bool)
          → cond b (Some (line_read (line_content (content_at priority time e)), position s (rest bs))) None ≡ told
          (cond b (got e (rest bs)) refused)
      go true = refl
      go false = refl

  -- a line that has to end behind its event
  event-ends : (x : Read content.Event) (e : content.Event) (bs : List ℕ) {read : LineRead} {r : Option (LineRead × ℕ)} → x ≡ ending e bs → read ≡ judged_at priority time e
      → r ≡ ended_at s read bs → r ≡ told x
  event-ends x e bs f g h = h ∙ ap (λ (y : LineRead). ended_at s y bs) g ∙ ended-told e bs ∙ ap told (sym f)

  as-event : (x y : Read content.Event) {r : Option (LineRead × ℕ)} → x ≡ y → r ≡ told y → r ≡ told x
  as-event x y e h = as_line s (at_time priority time x) (at_time priority time y) (ap (at_time priority time) e) h

  -- ---- instr

  module _ (at : ℕ) (label : Label ℕ) (n : ℕ) {a : Option (Float × ℕ)} (e : number_is s a ≡ next_number (drop at s)) where
    pub instr-number : a ≡ None → {r : Option (LineRead × ℕ)} → r ≡ None → r ≡ told (instr_from label n (drop at s))
    unfolding instr_from
    instr-number f h = none-at (instr_from label n (drop at s)) h (rw (number-no s e f))

    module _ (d : Float) (p : ℕ) (f : a ≡ Some (d, p)) {v : Option (ValueBits × ℕ)} (g : v ≡ values_told s (values_from (length (drop p s)) (drop p s))) where
      instr-values : instr_from label n (drop at s) ≡ and_then (values_from (length (drop p s)) (drop p s)) (λ vs q. got (content.instr label n d vs) q)
      unfolding instr_from
      instr-values = rw (number_of s e f)

      pub instr-is : {k : ValueBits} {q : ℕ} → v ≡ Some (k, q) → {read : LineRead} → read ≡ line_in_words (instr_words priority time label n d k) 0
          → Some (read, q) ≡ told (instr_from label n (drop at s))
      unfolding values_told line_told judged_at
      instr-is {k} {q} y {read} h = go (values_from (length (drop p s)) (drop p s)) (sym y ∙ g) ∙ ap told (sym instr-values)
        where
          go : (x : Read (List Float)) → Some (k, q) ≡ values_told s x → Some (read, q) ≡ told (and_then x (λ vs r. got (content.instr label n d vs) r))
          go (got vs r) e =
              let b : (k, q) ≡ (kept_of vs, position s r) = same_Some _ _ e in
              λ i. Some ((h ∙ ap (λ (w : ValueBits × ℕ). line_in_words (instr_words priority time label n d w.0) 0) b ∙ instr-judged priority time n d vs label) i, (b i).1)
          go refused e = absurd (none-some (k, q) (sym e))

      pub instr-cut : v ≡ None → {r : Option (LineRead × ℕ)} → r ≡ None → r ≡ told (instr_from label n (drop at s))
      unfolding values_told
      instr-cut y h = none-at (instr_from label n (drop at s)) h (instr-values ∙ go (values_from (length (drop p s)) (drop p s)) (sym y ∙ g))
        where
          go : (x : Read (List Float)) → None ≡ values_told s x → and_then x (λ vs q. got (content.instr label n d vs) q) ≡ refused
          go (got vs q) e = absurd (none-some (kept_of vs, position s q) e)
          go refused e = refl

  -- ---- control, tempo, end

  module _ (at : ℕ) (label : Label ℕ) {b : Option (ℕ × ℕ)} (g : name_is s b ≡ next_name (drop at s)) where
    pub setting-name : b ≡ None → {r : Option (LineRead × ℕ)} → r ≡ None → r ≡ told (setting_from label (drop at s))
    setting-name k h = none-at (setting_from label (drop at s)) h (rw (name-no s g k))

    module _ (n p : ℕ) (k : b ≡ Some (n, p)) {a : Option (Float × ℕ)} (i : number_is s a ≡ next_number (drop p s)) where
      pub setting-value : a ≡ None → {r : Option (LineRead × ℕ)} → r ≡ None → r ≡ told (setting_from label (drop at s))
      setting-value j h = none-at (setting_from label (drop at s)) h (rw (name_of s g k, number-no s i j))

      pub setting-is : (x : Float) (q : ℕ) → a ≡ Some (x, q) → {read : LineRead} {r : Option (LineRead × ℕ)} → read ≡ judged_at priority time (content.control label n x)
          → r ≡ ended_at s read (drop q s)
          → r ≡ told (setting_from label (drop at s))
      setting-is x q j l h = event-ends (setting_from label (drop at s)) (content.control label n x) (drop q s) (rw (name_of s g k, number_of s i j)) l h

  module _ (at : ℕ) {w : Option ℕ} where
    module _ (label : Label ℕ) (e : passed_is s w ≡ word_from control_word (drop at s)) {r : Option (LineRead × ℕ)} where
      pub control-word : w ≡ None → r ≡ None → r ≡ told (control_from label (drop at s))
      unfolding control_from
      control-word f h = none-at (control_from label (drop at s)) h (rw (passed-no s e f))

      pub control-is : (p : ℕ) → w ≡ Some p → r ≡ told (setting_from label (drop p s)) → r ≡ told (control_from label (drop at s))
      unfolding control_from
      control-is p f h = as-event (control_from label (drop at s)) (setting_from label (drop p s)) (rw (passed-at s e f)) h

    module _ (e : passed_is s w ≡ word_from tempo_word (drop at s)) where
      pub tempo-word : w ≡ None → {r : Option (LineRead × ℕ)} → r ≡ None → r ≡ told (tempo_from (drop at s))
      unfolding tempo_from
      tempo-word f h = none-at (tempo_from (drop at s)) h (rw (passed-no s e f))

      module _ (p : ℕ) (f : w ≡ Some p) {a : Option (Float × ℕ)} (i : number_is s a ≡ next_number (drop p s)) where
        pub tempo-value : a ≡ None → {r : Option (LineRead × ℕ)} → r ≡ None → r ≡ told (tempo_from (drop at s))
        unfolding tempo_from
        tempo-value j h = none-at (tempo_from (drop at s)) h (rw (passed-at s e f, number-no s i j))

        pub tempo-is : (x : Float) (o : ℕ) → a ≡ Some (x, o) → {read : LineRead} {r : Option (LineRead × ℕ)} → read ≡ judged_at priority time (content.tempo x)
            → r ≡ ended_at s read (drop o s)
            → r ≡ told (tempo_from (drop at s))
        unfolding tempo_from
        tempo-is x o j l h = event-ends (tempo_from (drop at s)) (content.tempo x) (drop o s) (rw (passed-at s e f, number_of s i j)) l h

    module _ (e : passed_is s w ≡ word_from end_word (drop at s)) where
      pub end-word : w ≡ None → {r : Option (LineRead × ℕ)} → r ≡ None → r ≡ told (end_from (drop at s))
      unfolding end_from
      end-word f h = none-at (end_from (drop at s)) h (rw (passed-no s e f))

      pub end_is : (p : ℕ) → w ≡ Some p → {read : LineRead} {r : Option (LineRead × ℕ)} → read ≡ judged_at priority time content.end → r ≡ ended_at s read (drop p s)
          → r ≡ told (end_from (drop at s))
      unfolding end_from
      end_is p f l h = event-ends (end_from (drop at s)) content.end (drop p s) (rw (passed-at s e f)) l h

  -- ---- the kind of event

  module _ (at n : ℕ) {w : Option ℕ} (e : passed_is s w ≡ gap_from (drop at s)) where
    pub named-gap : w ≡ None → {r : Option (LineRead × ℕ)} → r ≡ None → r ≡ told (named_from n (drop at s))
    unfolding named_from
    named-gap f h = none-at (named_from n (drop at s)) h (rw (passed-no s e f))

    module _ (p : ℕ) (f : w ≡ Some p) {t : Bool} (g : Starts s p 99 t) {r : Option (LineRead × ℕ)} where
      pub named-control : t ≡ true → r ≡ told (control_from (some n) (drop p s)) → r ≡ told (named_from n (drop at s))
      unfolding named_from
      named-control y h = as-event (named_from n (drop at s)) (control_from (some n) (drop p s)) (rw (passed-at s e f, sym g.is ∙ y)) h

      pub named-instr : t ≡ false → r ≡ told (instr_from none n (drop at s)) → r ≡ told (named_from n (drop at s))
      unfolding named_from
      named-instr y h = as-event (named_from n (drop at s)) (instr_from none n (drop at s)) (rw (passed-at s e f, sym g.is ∙ y)) h

  module _ (at : ℕ) {t : Bool} (g : Starts s at 115 t) where
    module _ (y : t ≡ true) {b : Option (ℕ × ℕ)} (e : name_is s b ≡ name_from (drop at s)) where
      pub event-name : b ≡ None → {r : Option (LineRead × ℕ)} → r ≡ None → r ≡ told (event_from (drop at s))
      unfolding event_from
      event-name f h = none-at (event_from (drop at s)) h (rw (name-no s e f, sym g.is ∙ y))

      pub event-named : (n p : ℕ) → b ≡ Some (n, p) → {r : Option (LineRead × ℕ)} → r ≡ told (named_from n (drop p s)) → r ≡ told (event_from (drop at s))
      unfolding event_from
      event-named n p f h = as-event (event_from (drop at s)) (named_from n (drop p s)) (rw (name_of s e f, sym g.is ∙ y)) h

    module _ (y : t ≡ false) {c : Bool} (i : Starts s at 99 c) {r : Option (LineRead × ℕ)} where
      pub event-control : c ≡ true → r ≡ told (control_from none (drop at s)) → r ≡ told (event_from (drop at s))
      unfolding event_from
      event-control j h = as-event (event_from (drop at s)) (control_from none (drop at s)) (rw (sym g.is ∙ y, sym i.is ∙ j)) h

      module _ (j : c ≡ false) {u : Bool} (k : Starts s at 116 u) where
        pub event-tempo : u ≡ true → r ≡ told (tempo_from (drop at s)) → r ≡ told (event_from (drop at s))
        unfolding event_from
        event-tempo l h = as-event (event_from (drop at s)) (tempo_from (drop at s)) (rw (sym g.is ∙ y, sym i.is ∙ j, sym k.is ∙ l)) h

        pub event-end : u ≡ false → r ≡ told (end_from (drop at s)) → r ≡ told (event_from (drop at s))
        unfolding event_from
        event-end l h = as-event (event_from (drop at s)) (end_from (drop at s)) (rw (sym g.is ∙ y, sym i.is ∙ j, sym k.is ∙ l)) h
