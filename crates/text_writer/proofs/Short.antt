-- The text of a line that the code can hold has at most 126 bytes. Assumes nothing.
use Prim.Native.Nat.{ℕ, ◌*◌, ◌≤◌}
use mathlib.Core.Path.{◌≡◌, subst}
use mathlib.Core.Bool.{Bool, true, false, ◌&&◌}
use mathlib.Core.List.{List, [], ◌∷◌}
use mathlib.Core.Option.{Option, none, some}
use native.Mathlib.Omega.{arith}
use lib.Dec.{T, eqb, eqb→eq}
use lib.ListN.{length, length-append, length-replicate, length-take, length-map}
use lib.Ieee.{Float, binary32, fits}
use lib.Ieee.Fits.{and_l, and_r}
use Rattle.text_numerals.specs.Numeral.{Numeral, encoded, whole_of, meaning}
use Rattle.text_numerals.proofs.Encoding.{number-length, name-length}
use Rattle.text_number_writer.specs.Push.{line_room}
use Rattle.base_formats.specs.Format.{all}
use Rattle.score_line.specs.declared.Event.{Event}
use Rattle.score_line.specs.declared.Event.TheVariants.{Instr, Control, End, Tempo}
use Rattle.score_line.specs.declared.Line.{Line}
use Rattle.score_line_writer.specs.Stored.{stored_when, stored_event, stored}
use Rattle.text_format.specs.Content as content
use Rattle.text_format.specs.Form.{Behind, Label, Form, instr, control, tempo, end, TextLine, spaces, label_bytes, target_bytes, value_bytes, form_bytes, star_bytes, line_bytes, ValidForm, ValidLabel, content_by}
use Rattle.text_format.specs.Form as form
use Rattle.text_line_writer.specs.LineText.{Canonical, event_content, CanonicalLabel, CanonicalValues, CanonicalForm, IsTextOf}
use Rattle.text_line_writer.proofs.Numbers.{numeral-back}
use Rattle.text_writer.proofs.Back.{content-parts, text-valid}

number_short : (t : Numeral) → Canonical t → length (encoded t) ≤ 10
number_short t p =
    subst (λ (x : Numeral). length (encoded x) ≤ 10) (numeral-back t p.valid p.unpadded)
    (number-length t.minus (whole_of t) (length t.decimals) p.shortest.below p.shortest.few)

label-short : (l : Option Label) → CanonicalLabel l → ValidLabel l → length (label_bytes l) ≤ 8
unfolding label_bytes spaces
label-short none p h = omega arith
label-short (some l) p h =
    simp (length-append, length-replicate) (omega (arith, name-length l.name h, p.0, p.1))

values-short : (vs : List (Behind Numeral)) → CanonicalValues vs → length (value_bytes vs) ≤ 11 * length vs
unfolding CanonicalValues value_bytes spaces
values-short [] p = omega arith
values-short (x ∷ xs) p =
    simp (length-append, length-replicate) (omega (arith, number_short x.element p.0.1, values-short xs p.1, p.0.0))

-- the values that an event says
content_values : content.Event → List Float
content_values (content.instr l name d vs) = vs
content_values (content.control l name x) = []
content_values (content.tempo x) = []
content_values content.end = []

form-short : (f : Form) → CanonicalForm f → ValidForm f → length (content_values (form.event_content f)) ≤ 8 → length (form_bytes f) ≤ 124
unfolding CanonicalForm ValidForm form_bytes target_bytes content_values
form-short (instr l t n d vs) p h k =
    simp (length-append, length-replicate) (omega (
      arith,
      label-short l p.0 h.0,
      number_short t p.1.0,
      name-length n.element h.1.1.0,
      number_short
          d.element p.1.1.1.0.1,
      values-short vs p.1.1.1.1,
      length-map vs (λ (x : Behind Numeral). meaning x.element),
      p.1.1.0,
      p.1.1.1.0.0,
    ))
form-short (control t none more n x) p h k =
    simp (length-append, length-replicate) (omega (
      arith,
      number_short t p.0,
      name-length n.element h.1.1.0,
      number_short x.element p.1.1.1.1.1,
      p.1.1.0,
      p.1.1.1.0,
      p.1.1.1.1.0,
    ))
form-short (control t (some l) more n x) p h k =
    simp (length-append, length-replicate) (omega (
      arith,
      name-length l.element h.1.0,
      number_short t p.0,
      name-length n.element h.1.1.0,
      number_short
          x.element p.1.1.1.1.1,
      p.1.0,
      p.1.1.0,
      p.1.1.1.0,
      p.1.1.1.1.0,
    ))
form-short (tempo t more x) p h k =
    simp (length-append, length-replicate) (omega (arith, number_short t p.0, number_short x.element p.1.1.1, p.1.0, p.1.1.0))
form-short (end t more) p h k = simp (length-append, length-replicate) (omega (arith, number_short t p.0, p.1))

few-values : (e : Event) (n : ℕ) (xs : List Float) → length xs ≡ 8 → length (content_values (event_content e n xs)) ≤ 8
unfolding content_values
few-values (Instr l i d) n xs h = omega (arith, length-take n xs)
few-values (Control l v x) n xs h = omega arith
few-values End n xs h = omega arith
few-values (Tempo x) n xs h = omega arith

star-short : (p : Bool) → length (star_bytes p) ≤ 1
unfolding star_bytes
star-short true = omega arith
star-short false = omega arith

pub text-short : (l : Line) (w : TextLine) → T (stored l) → IsTextOf l w → length (line_bytes w) ≤ line_room
unfolding line_bytes content_by
text-short l w h s =
    let e = stored_event l.event in
    let b = eqb (length l.values) 8 in
    let v = all (fits binary32) l.values in
    let eight = eqb→eq (length l.values) 8 (and_l b v (and_r e (b && v) (and_r (stored_when l.when) (e && (b && v)) h))) in
    let few : length (content_values (form.event_content w.form)) ≤ 8 =
    subst (λ (x : content.Event). length (content_values x) ≤ 8) (content-parts l (content_by w) s.is-content).event (few-values l.event l.count l.values eight) in
    let f = form-short w.form s.is_plain (text-valid l w h s) few in
    simp length-append (omega (arith, f, star-short w.priority))
