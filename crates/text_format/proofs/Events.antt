-- The events of a line, each to the end of its line, are read where they are encoded. Assumes nothing.
use Prim.Native.Nat.{ℕ}
use mathlib.Core.Path.{◌≡◌, refl, ap, ◌∙◌}
use mathlib.Core.Bool.{true, false, cond}
use mathlib.Core.List.{List, ◌∷◌, ◌++◌, map}
use mathlib.Core.Option.{Option, none, some}
use Rattle.base_laws.proofs.Choice.{cond-true, cond-false}
use Rattle.text_numerals.specs.Numeral.{name_letter, Numeral, Valid, encoded, name_bytes}
use Rattle.text_numerals.specs.inside.Reading.{got, and_then, starts_with, is_digit, starts_digit}
use Rattle.text_numerals.proofs.Readings.{number-starts, name-complete}
use Rattle.text_format.specs.Content as content
use Rattle.text_format.specs.Form.{newline, control_word, tempo_word, end_word, Behind, behind_bytes, behind_name, behind_number, value_bytes, ValidName, ValidValues}
use Rattle.text_format.specs.inside.Reading.{gap_from, word_from, ending, instr_from, control_from, tempo_from, end_from, named_from, event_from}
use Rattle.text_format.proofs.Elements.{behind-gap, number-here, value, next-name-complete, next-number-complete, behind-parted, newline-parted, values-parted, values-complete, values-room}

-- ---- behind an instrument's name, and from a word on

pub instr-complete : (label : Option ℕ) (name : ℕ) (d : Behind Numeral) (vs : List (Behind Numeral)) (after : List ℕ) → Valid d.element → ValidValues vs
    → instr_from label name (behind_number d ++ (value_bytes vs ++ (newline ∷ after))) ≡ got (content.instr label name (value d) (map value vs)) after
unfolding instr_from
instr-complete label name d vs after l k =
    rw (next-number-complete d (value_bytes vs ++ (newline ∷ after)) l (values-parted vs after), values-complete vs _ after k (values-room vs after))

control-complete : (label : Option ℕ) (n : Behind ℕ) (x : Behind Numeral) (after : List ℕ) → ValidName n.element → Valid x.element
    → control_from label (control_word ++ (behind_name n ++ (behind_number x ++ (newline ∷ after)))) ≡ got (content.control label n.element (value x)) after
unfolding control_from word_from ending starts_with
control-complete label n x after l k =
    rw (
      next-name-complete n (behind_number x ++ (newline ∷ after)) l (behind-parted x.more (encoded x.element) (newline ∷ after)).no_digit,
      next-number-complete x
          (newline ∷ after) k (newline-parted after),
    )

-- ---- behind the time and a gap

event-named : (n : ℕ) (r : List ℕ) {u : Unit {0}} {q : List ℕ} → ValidName n → starts_digit r ≡ false → gap_from r ≡ got u q
    → event_from (name_bytes n ++ r) ≡ cond (starts_with 99 q) (control_from (some n) q) (instr_from none n r)
event-named n r {q = q} l h g =
    unfold event_from in
    cond-true _ _ (let z : starts_with name_letter (name_bytes n ++ r) ≡ true = unfold starts_with name_bytes in refl in z) ∙ ap (λ z. and_then z (λ name s. named_from name s))
    (name-complete n r l h)
    ∙ ap (λ z. and_then z (λ x s. cond (starts_with 99 s) (control_from (some n) s) (instr_from none n r))) g

pub event-instr : (n : ℕ) (d : Behind Numeral) (vs : List (Behind Numeral)) (after : List ℕ) → ValidName n → Valid d.element → ValidValues vs
    → event_from (name_bytes n ++ (behind_number d ++ (value_bytes vs ++ (newline ∷ after)))) ≡ got (content.instr none n (value d) (map value vs)) after
event-instr n d vs after l k j =
    let more = value_bytes vs ++ (newline ∷ after) in
    event-named n (behind_number d ++ more) l (behind-parted d.more (encoded d.element) more).no_digit
    (behind-gap d.more (encoded d.element) more (number-here d.element more k))
    ∙ cond-false _ _ (number-starts 99 d.element more k (unfold is_digit in refl) refl) ∙ instr-complete none n d vs after k j

pub event-labelled : (l n : Behind ℕ) (more : ℕ) (x : Behind Numeral) (after : List ℕ) → ValidName l.element → ValidName n.element → Valid x.element
    → event_from (name_bytes l.element ++ (behind_bytes more control_word ++ (behind_name n ++ (behind_number x ++ (newline ∷ after))))) ≡ got
    (content.control (some l.element) n.element (value x)) after
unfolding starts_with
event-labelled l n more x after k j i =
    let others = behind_name n ++ (behind_number x ++ (newline ∷ after)) in
    event-named l.element (behind_bytes more control_word ++ others) k (behind-parted more control_word others).no_digit (behind-gap more control_word others refl)
    ∙ control-complete (some l.element) n x after j i

pub event-control : (n : Behind ℕ) (x : Behind Numeral) (after : List ℕ) → ValidName n.element → Valid x.element
    → event_from (control_word ++ (behind_name n ++ (behind_number x ++ (newline ∷ after)))) ≡ got (content.control none n.element (value x)) after
unfolding event_from starts_with
event-control n x after l k = control-complete none n x after l k

pub event-tempo : (x : Behind Numeral) (after : List ℕ) → Valid x.element
    → event_from (tempo_word ++ (behind_number x ++ (newline ∷ after))) ≡ got (content.tempo (value x)) after
unfolding event_from tempo_from word_from ending starts_with
event-tempo x after l = rw (next-number-complete x (newline ∷ after) l (newline-parted after))

pub event-end : (after : List ℕ) → event_from (end_word ++ (newline ∷ after)) ≡ got content.end after
unfolding event_from end_from word_from ending starts_with
event-end after = refl
