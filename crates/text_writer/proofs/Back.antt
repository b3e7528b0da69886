-- What was written reads back. Assumes nothing.
use Prim.Native.Nat.{ℕ, min as lesser}
use mathlib.Core.Path.{◌≡◌, refl, sym, ap, ap₂, ◌∙◌, subst}
use mathlib.Core.Bool.{Bool, true, false, ◌&&◌}
use mathlib.Core.List.{List, [], ◌∷◌, map, append-nil}
use mathlib.Core.Option
use mathlib.Core.Option.{none, some, none-ne-some, some-injective}
use native.Mathlib.Nat.{zero-add}
use native.Mathlib.Omega.{arith}
use lib.Dec.{T, eqb, leb, eqb→eq, leb→le}
use lib.ListN.{length, take}
use lib.Ieee.{Float, binary32, fits}
use lib.Ieee.Fits.{and_l, and_r}
use Rattle.base_bitstream.specs.Bits.{digit}
use Rattle.base_formats.specs.Format.{field_words, all, times_fields, got, keypad_source}
use Rattle.base_formats.specs.Format as F
use Rattle.base_formats.specs.Description.{format, flag}
use Rattle.score_line.specs.LineFormat.{event_parts, kind_of, values_of, filled, float, number, timed, when, label, kind, labelled, body, counted, values, after_time, parts, line, valid}
use Rattle.score_line.specs.declared.When.{When}
use Rattle.score_line.specs.declared.When.TheVariants.{Timed, Untimed}
use Rattle.score_line.specs.declared.Label.TheVariants.{Unlabelled, Labelled}
use Rattle.score_line.specs.declared.Range.TheVariants as range
use Rattle.score_line.specs.declared.Event.{Event}
use Rattle.score_line.specs.declared.Event.TheVariants.{Instr, Control, End, Tempo}
use Rattle.score_line.specs.declared.Line.{Line}
use Rattle.score_line.specs.Reading.{line_from, line_in_words}
use Rattle.score_line_writer.specs.Writing.{line_words}
use Rattle.score_line_writer.specs.Claims.{taken}
use Rattle.score_line_writer.specs.Stored.{is_symbol, stored_when, stored_event, stored}
use Rattle.score_line_writer.proofs.Proved.{read_taken, words-here}
use Rattle.text_numerals.specs.Numeral.{Numeral}
use Rattle.text_format.specs.Content.{Content, bits, event_words, words_of, line_content}
use Rattle.text_format.specs.Content as content
use Rattle.text_format.specs.Form.{Behind, Form, instr, control, tempo, end, TextLine, ValidName, ValidValues, ValidForm, content_by}
use Rattle.text_format.specs.Form as form
use Rattle.text_line_writer.specs.LineText.{time_content, event_content, content_of, CanonicalValues, CanonicalForm, IsTextOf}

-- ---- a line's keypad numbers are what it says

pub flag-digit : (b : Bool) → content.flag b ≡ digit b
flag-digit true = refl
flag-digit false = refl

float-words : (xs : List Float) → map bits xs ≡ field_words (times_fields (format (float range.Value)) xs [])
unfolding field_words float
float-words [] = refl
float-words (x ∷ xs) = ap (λ (ws : List ℕ). bits x ∷ ws) (float-words xs)

-- the number of values in use, in a valid line
few-values : (n : ℕ) (xs : List Float) → T ((format counted).valid (n, take n xs)) → length (take n xs) ≡ lesser n 255
unfolding counted number
few-values n xs h =
    let f = (format (float range.Value)).valid in
    let a = leb→le (lesser n 255) 8 (and_l (leb (lesser n 255) 8) (eqb (length (take n xs)) n && all f (take n xs)) h) in
    let b = eqb→eq (length (take n xs)) n (and_l (eqb (length (take n xs)) n) (all f (take n xs))
    (and_r (leb (lesser n 255) 8) (eqb (length (take n xs)) n && all f (take n xs)) h)) in
    omega arith

-- an instr line's number of values is that of its places in use
abbrev pub Counts : Event → ℕ → List Float → Type 0
Counts (Instr l i d) n xs = length (take n xs) ≡ lesser n 255
Counts (Control l v x) n xs = Unit {0}
Counts End n xs = Unit {0}
Counts (Tempo x) n xs = Unit {0}

counts : (e : Event) (n : ℕ) (xs : List Float) → T ((format (values (kind_of e))).valid (values_of (kind_of e) n xs)) → Counts e n xs
unfolding values
counts (Instr l i d) n xs h = few-values n xs h
counts (Control l v x) n xs h = tt
counts End n xs h = tt
counts (Tempo x) n xs h = tt

-- from the type on
event-words : (e : Event) (n : ℕ) (xs : List Float) → Counts e n xs
    → event_words (event_content e n xs) ≡ field_words ((format kind).fields (kind_of e)
    ((format (body (kind_of e))).fields (event_parts e).1 ((format (values (kind_of e))).fields (values_of (kind_of e) n xs) [])))
unfolding field_words kind body labelled values counted number float F.small label
event-words (Instr Unlabelled i d) n xs h = ap₂ (λ (k : ℕ) (ws : List ℕ). 0 ∷ (0 ∷ (i ∷ (bits d ∷ (k ∷ ws))))) h (float-words (take n xs))
event-words (Instr (Labelled l) i d) n xs h = ap₂ (λ (k : ℕ) (ws : List ℕ). 0 ∷ (1 ∷ (l ∷ (i ∷ (bits d ∷ (k ∷ ws)))))) h (float-words (take n xs))
event-words (Control l v x) n xs h = refl
event-words End n xs h = refl
event-words (Tempo x) n xs h = refl

pub timed-words : (p : Bool) (t : Float) (e : Event) (n : ℕ) (xs : List Float) → Counts e n xs
    → words_of (record { priority = p; time = t; event = event_content e n xs }) ≡ line_words (record { when = Timed false t; priority = p; event = e; count = n; values = xs })
unfolding words_of line_words field_words line parts after_time when timed float F.small
timed-words p t e n xs h = ap₂ (λ (d : ℕ) (ws : List ℕ). 1 ∷ (0 ∷ (bits t ∷ (d ∷ ws)))) (flag-digit p) (event-words e n xs h)

values-valid : (l : Line) → T (valid l) → T ((format (values (kind_of l.event))).valid (values_of (kind_of l.event) l.count l.values))
unfolding line parts after_time kind
values-valid l h =
    let k = kind_of l.event in
    let b = (format (body k)).valid (event_parts l.event).1 in
    let v = (format (values k)).valid (values_of k l.count l.values) in
    let w = (format when).valid l.when in
    let p = (format flag).valid l.priority in
    and_r b v (and_r p (b && v) (and_r w (p && (b && v)) (and_r (filled l) (w && (p && (b && v))) h)))

-- a line that says something is timed, and says its parts
pub record Parts (l : Line) (s : Content) : Type 0 where
  pub when : l.when ≡ Timed false s.time
  pub priority : l.priority ≡ s.priority
  pub event : event_content l.event l.count l.values ≡ s.event

pub content-parts : (l : Line) (s : Content) → content_of l ≡ some s → Parts l s
content-parts l s e = go l.when refl e
  where
    go : (w : When) → l.when ≡ w
        → Option.map (λ t. record { priority = l.priority; time = t; event = event_content l.event l.count l.values }) (time_content w) ≡ some s → Parts l s
    go Untimed i f = absurd (none-ne-some s f)
    go (Timed true t) i f = absurd (none-ne-some s f)
    go (Timed false t) i f =
        let k = some-injective (record { priority = l.priority; time = t; event = event_content l.event l.count l.values }) s f in
        record { when = i ∙ ap (λ (z : Content). Timed false z.time) k; priority = ap (λ (z : Content). z.priority) k; event = ap (λ (z : Content). z.event) k }

content-words : (l : Line) (s : Content) → T (valid l) → content_of l ≡ some s → words_of s ≡ line_words l
content-words l s h e =
    let p = content-parts l s e in
    (λ i. words_of (record { priority = sym p.priority i; time = s.time; event = sym p.event i }))
    ∙ timed-words l.priority s.time l.event l.count l.values (counts l.event l.count l.values (values-valid l h))
    ∙ (λ i. line_words (record { when = sym p.when i; priority = l.priority; event = l.event; count = l.count; values = l.values }))

-- so a valid line is read from what it says
pub content-line : (l : Line) (s : Content) → T (valid l) → content_of l ≡ some s → line_content s ≡ got l (length (line_words l))
unfolding line_content line_in_words
content-line l s h e =
    ap (λ (ws : List ℕ). line_from (keypad_source ws) 0) (content-words l s h e)
    ∙ read_taken (line_from (keypad_source (line_words l)) 0) l (length (line_words l))
    (words-here (line_words l) 0 l [] h (sym (append-nil (line_words l))) ∙ ap (taken l) (zero-add (length (line_words l))))

-- ---- its text is valid

unfoldable pub SmallNames : content.Event → Type 0
SmallNames (content.instr none name d vs) = ValidName name
SmallNames (content.instr (some l) name d vs) = ValidName l × ValidName name
SmallNames (content.control none name x) = ValidName name
SmallNames (content.control (some l) name x) = ValidName l × ValidName name
SmallNames (content.tempo x) = Unit {0}
SmallNames content.end = Unit {0}

event-names : (e : Event) (n : ℕ) (xs : List Float) → T (stored_event e) → SmallNames (event_content e n xs)
unfolding SmallNames
event-names (Instr Unlabelled i d) n xs h = leb→le i 65535 (and_l (is_symbol i) (fits binary32 d) h)
event-names (Instr (Labelled l) i d) n xs h = (
  leb→le l 65535 (and_l (is_symbol l) (is_symbol i && fits binary32 d) h),
  leb→le i 65535
      (and_l (is_symbol i) (fits binary32 d) (and_r (is_symbol l) (is_symbol i && fits binary32 d) h)),
)
event-names (Control l v x) n xs h = (
  leb→le l 65535 (and_l (is_symbol l) (is_symbol v && fits binary32 x) h),
  leb→le v 65535
      (and_l (is_symbol v) (fits binary32 x) (and_r (is_symbol l) (is_symbol v && fits binary32 x) h)),
)
event-names End n xs h = tt
event-names (Tempo x) n xs h = tt

values-plain : (vs : List (Behind Numeral)) → CanonicalValues vs → ValidValues vs
unfolding CanonicalValues ValidValues
values-plain [] h = tt
values-plain (x ∷ xs) h = (h.0.1.valid, values-plain xs h.1)

form-valid : (f : Form) → CanonicalForm f → SmallNames (form.event_content f) → ValidForm f
unfolding CanonicalForm ValidForm SmallNames
form-valid (instr none t n d vs) h k = (tt, (h.1.0.valid, (k, (h.1.1.1.0.1.valid, values-plain vs h.1.1.1.1))))
form-valid (instr (some l) t n d vs) h k = (k.0, (h.1.0.valid, (k.1, (h.1.1.1.0.1.valid, values-plain vs h.1.1.1.1))))
form-valid (control t none more n x) h k = (h.0.valid, (tt, (k, h.1.1.1.1.1.valid)))
form-valid (control t (some l) more n x) h k = (h.0.valid, (k.0, (k.1, h.1.1.1.1.1.valid)))
form-valid (tempo t more x) h k = (h.0.valid, h.1.1.1.valid)
form-valid (end t more) h k = h.0.valid

pub text-valid : (l : Line) (w : TextLine) → T (stored l) → IsTextOf l w → ValidForm w.form
unfolding content_by
text-valid l w h s =
    let e = stored_event l.event in
    let r = eqb (length l.values) 8 && all (fits binary32) l.values in
    form-valid w.form s.is_plain
    (subst SmallNames (content-parts l (content_by w) s.is-content).event (event-names l.event l.count l.values (and_l e r (and_r (stored_when l.when) (e && r) h))))
