-- A line has one text, or a reason why it has none. Assumes nothing.
use Prim.Native.Nat.{ℕ, zero, suc}
use mathlib.Core.Path.{◌≡◌, refl, sym, ap, ap₂, ◌∙◌, subst}
use mathlib.Core.Bool.{Bool, true, false, ◌&&◌}
use mathlib.Core.List.{List, [], ◌∷◌, map}
use mathlib.Core.Option
use mathlib.Core.Option.{Option, none, some, none-ne-some, some-injective}
use native.Mathlib.Omega.{arith}
use lib.Dec.{T, eqb}
use lib.ListN.{length, take}
use lib.Ieee.{Float, binary32, fits}
use lib.Ieee.Fits.{and_l, and_r, and_i}
use Rattle.text_numerals.specs.Numeral.{Numeral, Valid, whole_of, float_of, meaning}
use Rattle.text_numerals.specs.Shortest.{NoText}
use Rattle.base_formats.specs.Format.{all}
use Rattle.score_line.specs.declared.When.{When}
use Rattle.score_line.specs.declared.When.TheVariants.{Timed, Untimed}
use Rattle.score_line.specs.declared.Event.{Event}
use Rattle.score_line.specs.declared.Event.TheVariants.{Instr, Control, End, Tempo}
use Rattle.score_line.specs.declared.Line.{Line}
use Rattle.score_line_writer.specs.Stored.{is_symbol, stored_when, stored_label, stored_event, stored}
use Rattle.text_format.specs.Content.{Content}
use Rattle.text_format.specs.Content as content
use Rattle.text_format.specs.Form.{Behind, Label, Form, instr, control, tempo, end, TextLine, ValidValues, ValidForm, label_content, target_content, content_by}
use Rattle.text_format.specs.Form as form
use Rattle.text_line_writer.specs.inside.NumberText.{number_text}
use Rattle.text_line_writer.specs.inside.LineText.{if_there, single, label_form, values_text, event_text, content_text, line_text}
use Rattle.text_line_writer.specs.LineText.{Canonical, event_content, content_of, Single, CanonicalLabel, CanonicalTarget, CanonicalValues, CanonicalForm, IsTextOf, event_numbers, numbers_of, SomeNoText, here, later, NoTextForm, no-time, use-if-late, no_number}
use Rattle.text_writer.specs.Claims.{Told, EveryLineTold}
use Rattle.text_writer.specs.Claims as claims
use Rattle.text_line_writer.proofs.Numbers.{sign-back, NumberTold, plain, none_of, number-told, number-plain}
use Rattle.text_writer.proofs.Stored.{and-map}
use Rattle.text_writer.proofs.Back.{text-valid}

-- ---- a plain line is found

single-is : {A : Type 0} (x : Behind A) → Single x → single x.element ≡ x
single-is x e i = record { more = sym e i; element = x.element }

abbrev elements : List (Behind Numeral) → List Numeral
elements [] = []
elements (x ∷ xs) = x.element ∷ elements xs

values-plain : (vs : List (Behind Numeral)) → CanonicalValues vs
    → (values_text (map (λ (x : Behind Numeral). meaning x.element) vs) ≡ some (elements vs)) × (map single (elements vs) ≡ vs)
unfolding CanonicalValues values_text
values-plain [] h = (refl, refl)
values-plain (x ∷ xs) h =
    let k = values-plain xs h.1 in
    (rw (number-plain x.element h.0.1, k.0), λ i. single-is x h.0.0 i ∷ k.1 i)

label-plain : (l : Option Label) → CanonicalLabel l → Option.map label_form (label_content l) ≡ l
label-plain none h = refl
label-plain (some l) h = λ i. some (record { name = l.name; before = sym h.0 i; after = sym h.1 i })

target-plain : (l : Option (Behind ℕ)) → CanonicalTarget l → Option.map single (target_content l) ≡ l
target-plain none h = refl
target-plain (some l) h = ap {B = Option (Behind ℕ)} some (single-is l h)

form-plain : (f : Form) → CanonicalForm f → if_there (number_text (meaning (form.time_content f))) (event_text (form.event_content f)) ≡ some f
unfolding CanonicalForm event_text
form-plain (instr l t n d vs) h =
    let k = values-plain vs h.1.1.1.1 in
    rw (number-plain t h.1.0, number-plain d.element h.1.1.1.0.1, k.0)
    (λ i. some (instr (label-plain l h.0 i) t (single-is n h.1.1.0 i) (single-is d h.1.1.1.0.0 i) (k.1 i)))
form-plain (control t l more n x) h =
    rw (number-plain t h.0, number-plain x.element h.1.1.1.1.1)
    (λ i. some (control t (target-plain l h.1.0 i) (sym h.1.1.0 i) (single-is n h.1.1.1.0 i) (single-is x h.1.1.1.1.0 i)))
form-plain (tempo t more x) h = rw (number-plain t h.0, number-plain x.element h.1.1.1) (λ i. some (tempo t (sym h.1.0 i) (single-is x h.1.1.0 i)))
form-plain (end t more) h = rw (number-plain t h.0) (λ i. some (end t (sym h.1 i)))

pub line-found : (l : Line) (w : TextLine) → IsTextOf l w → line_text l ≡ some w
unfolding line_text content_text content_by
line-found l w h = rw (h.is-content, form-plain w.form h.is_plain)

-- ---- what is found is plain

data ValuesTold (xs : List Float) : Option (List Numeral) → Type 0 where
  has : (ts : List Numeral) → CanonicalValues (map single ts) → map (λ (x : Behind Numeral). meaning x.element) (map single ts) ≡ xs → ValuesTold xs (some ts)
  lacks : SomeNoText xs → ValuesTold xs none

values-told : (xs : List Float) → T (all (fits binary32) xs) → ValuesTold xs (values_text xs)
unfolding CanonicalValues values_text
values-told [] h = has [] tt refl
values-told (x ∷ xs) h =
    go (number-told x (and_l (fits binary32 x) (all (fits binary32) xs) h)) (values-told xs (and_r (fits binary32 x) (all (fits binary32) xs) h))
  where
    go : {o : Option Numeral} {r : Option (List Numeral)} → NumberTold x o → ValuesTold xs r → ValuesTold (x ∷ xs) (if_there o (λ t. Option.map (λ ts. t ∷ ts) r))
    go (plain t p e) (has ts q f) = has (t ∷ ts) ((refl, p), q) (ap₂ (λ (y : Float) (ys : List Float). y ∷ ys) e f)
    go (plain t p e) (lacks f) = lacks (later f)
    go (none_of n) r = lacks (here n)

data FormTold (time : Float) (e : content.Event) : Option Form → Type 0 where
  has : (f : Form) → CanonicalForm f → meaning (form.time_content f) ≡ time → form.event_content f ≡ e → FormTold time e (some f)
  lacks : SomeNoText (time ∷ event_numbers e) → FormTold time e none

label-back : (l : Option ℕ) → (label_content (Option.map label_form l) ≡ l) × CanonicalLabel (Option.map label_form l)
label-back none = (refl, tt)
label-back (some n) = (refl, (refl, refl))

target-back : (l : Option ℕ) → (target_content (Option.map single l) ≡ l) × CanonicalTarget (Option.map single l)
target-back none = (refl, tt)
target-back (some n) = (refl, refl)

module _ {time : Float} {e : content.Event} where
  told-then : {x : Float} {o : Option Numeral} {k : Numeral → Option Form} → NumberTold x o → (NoText x → SomeNoText (time ∷ event_numbers e))
      → ((t : Numeral) → Canonical t → meaning t ≡ x → FormTold time e (k t)) → FormTold time e (if_there o k)
  told-then (plain t p q) f g = g t p q
  told-then (none_of n) f g = lacks (f n)

  told-last : {x : Float} {o : Option Numeral} {k : Numeral → Form} → NumberTold x o → (NoText x → SomeNoText (time ∷ event_numbers e))
      → ((t : Numeral) → Canonical t → meaning t ≡ x → FormTold time e (some (k t))) → FormTold time e (Option.map k o)
  told-last (plain t p q) f g = g t p q
  told-last (none_of n) f g = lacks (f n)

  told-values : {xs : List Float} {o : Option (List Numeral)} {k : List Numeral → Form} → ValuesTold xs o → (SomeNoText xs → SomeNoText (time ∷ event_numbers e))
      → ((ts : List Numeral) → CanonicalValues (map single ts) → map (λ (x : Behind Numeral). meaning x.element) (map single ts) ≡ xs → FormTold time e (some (k ts)))
      → FormTold time e (Option.map k o)
  told-values (has ts q f) h g = g ts q f
  told-values (lacks n) h g = lacks (h n)

form-told : (time : Float) (e : content.Event) → T (all (fits binary32) (time ∷ event_numbers e)) → FormTold time e (if_there (number_text time) (event_text e))
unfolding CanonicalForm event_text
form-told time (content.instr l name d vs) h =
    let ns = all (fits binary32) vs in
    let k = and_r (fits binary32 time) (fits binary32 d && ns) h in
    told-then (number-told time (and_l (fits binary32 time) (fits binary32 d && ns) h)) here
    (λ t p e. told-then (number-told d (and_l (fits binary32 d) ns k)) (λ n. later (here n)) (λ x u f.
    told-values (values-told vs (and_r (fits binary32 d) ns k)) (λ n. later (later n)) (λ xs w g.
    has (instr (Option.map label_form l) t (single name) (single x) (map single xs)) ((label-back l).1, (p, (refl, ((refl, u), w)))) e
    (λ i. content.instr ((label-back l).0 i) name (f i) (g i)))))
form-told time (content.control l name d) h =
    let k = and_r (fits binary32 time) (fits binary32 d && true) h in
    told-then (number-told time (and_l (fits binary32 time) (fits binary32 d && true) h)) here
    (λ t p e. told-last (number-told d (and_l (fits binary32 d) true k)) (λ n. later (here n)) (λ x u f.
    has (control t (Option.map single l) 0 (single name) (single x)) (p, ((target-back l).1, (refl, (refl, (refl, u))))) e
    (λ i. content.control ((target-back l).0 i) name (f i))))
form-told time (content.tempo d) h =
    let k = and_r (fits binary32 time) (fits binary32 d && true) h in
    told-then (number-told time (and_l (fits binary32 time) (fits binary32 d && true) h)) here
    (λ t p e. told-last (number-told d (and_l (fits binary32 d) true k)) (λ n. later (here n)) (λ x u f.
    has (tempo t 0 (single x)) (p, (refl, (refl, u))) e (λ i. content.tempo (f i))))
form-told time content.end h = told-then (number-told time (and_l (fits binary32 time) true h)) here (λ t p e. has (end t 0) (p, refl) e refl)

-- ---- a valid text lacks no number

valid-has : (t : Numeral) → Valid t → NoText (meaning t) → ⊥
unfolding meaning
valid-has t h n = n (whole_of t) (length t.decimals) h.below h.few (ap (λ (s : Bool). float_of s (whole_of t) (length t.decimals)) (sign-back t h))

none-lacks : SomeNoText [] → ⊥
none-lacks n = go n refl
  where
    go : {xs : List Float} → SomeNoText xs → xs ≡ [] → ⊥
    go (here n) e = let z : ◌≡◌ {A = ℕ} 0 1 = cc in omega arith
    go (later n) e = let z : ◌≡◌ {A = ℕ} 0 1 = cc in omega arith

neither : {x : Float} {xs : List Float} → (NoText x → ⊥) → (SomeNoText xs → ⊥) → SomeNoText (x ∷ xs) → ⊥
neither f g (here n) = f n
neither f g (later n) = g n

values-have : (vs : List (Behind Numeral)) → ValidValues vs → SomeNoText (map (λ (x : Behind Numeral). meaning x.element) vs) → ⊥
unfolding ValidValues
values-have [] h = none-lacks
values-have (x ∷ xs) h = neither (valid-has x.element h.0) (values-have xs h.1)

form-has : (f : Form) → ValidForm f → SomeNoText (meaning (form.time_content f) ∷ event_numbers (form.event_content f)) → ⊥
unfolding ValidForm
form-has (instr l t n d vs) h = neither (valid-has t h.1.0) (neither (valid-has d.element h.1.1.1.0) (values-have vs h.1.1.1.1))
form-has (control t l more n x) h = neither (valid-has t h.0) (neither (valid-has x.element h.1.1.1) none-lacks)
form-has (tempo t more x) h = neither (valid-has t h.0) (neither (valid-has x.element h.1) none-lacks)
form-has (end t more) h = neither (valid-has t h) none-lacks

-- ---- a line, part by part

all_take : (n : ℕ) (xs : List Float) → T (all (fits binary32) xs) → T (all (fits binary32) (take n xs))
all_take zero xs h = tt
all_take (suc n) [] h = tt
all_take (suc n) (x ∷ xs) h = and-map (fits binary32 x) (all (fits binary32) xs) (fits binary32 x) (all (fits binary32) (take n xs)) (λ k. k) (all_take n xs) h

event-fits : (e : Event) (n : ℕ) (xs : List Float) → T (stored_event e) → T (all (fits binary32) xs) → T (all (fits binary32) (event_numbers (event_content e n xs)))
event-fits (Instr l i d) n xs k m =
    and_i (fits binary32 d) (all (fits binary32) (take n xs)) (and_r (is_symbol i) (fits binary32 d) (and_r (stored_label l) (is_symbol i && fits binary32 d) k))
    (all_take n xs m)
event-fits (Control l v x) n xs k m = and_i (fits binary32 x) true (and_r (is_symbol v) (fits binary32 x) (and_r (is_symbol l) (is_symbol v && fits binary32 x) k)) tt
event-fits End n xs k m = tt
event-fits (Tempo x) n xs k m = and_i (fits binary32 x) true k tt

-- a text and a reason against it exclude each other
pub content-not : (l : Line) (w : TextLine) → ValidForm w.form → content_of l ≡ some (content_by w) → NoTextForm l → ⊥
unfolding content_by
content-not l w h k (no-time e) = none-ne-some (content_by w) (rw e at k)
content-not l w h k (use-if-late t e) = none-ne-some (content_by w) (rw e at k)
content-not l w h k (no_number s e n) = form-has w.form h (subst (λ (z : Content). SomeNoText (numbers_of z)) (some-injective s (content_by w) (sym e ∙ k)) n)

found-content : (l : Line) (w : TextLine) → T (stored l) → line_text l ≡ some w → IsTextOf l w → Told l (line_text l)
found-content l w g e h =
    rw e (claims.content w h (λ v s. some-injective v w (sym (line-found l v s) ∙ e)) (content-not l w (text-valid l w g h) h.is-content))

found_none : (l : Line) → T (stored l) → line_text l ≡ none → NoTextForm l → Told l (line_text l)
found_none l g e u = rw e (claims.unsaid u (λ v s. content-not l v (text-valid l v g s) s.is-content u))

module _ (p : Bool) (e : Event) (n : ℕ) (xs : List Float) where
  abbrev at : When → Line
  at w = record { when = w; priority = p; event = e; count = n; values = xs }

  told-parts : (w : When) → T (stored (at w)) → T (stored_when w) → T (stored_event e) → T (all (fits binary32) xs) → Told (at w) (line_text (at w))
  told-parts Untimed g h k m = found_none (at Untimed) g (unfold line_text in refl) (no-time refl)
  told-parts (Timed true t) g h k m = found_none (at (Timed true t)) g (unfold line_text in refl) (use-if-late t refl)
  told-parts (Timed false t) g h k m =
      go (form-told t (event_content e n xs) (and_i (fits binary32 t) (all (fits binary32) (event_numbers (event_content e n xs))) h (event-fits e n xs k m)))
      (unfold line_text content_text in refl)
    where
      go : {o : Option Form} → FormTold t (event_content e n xs) o → line_text (at (Timed false t)) ≡ Option.map (λ f. record { priority = p; form = f }) o
          → Told (at (Timed false t)) (line_text (at (Timed false t)))
      go (has f z a b) q =
          found-content (at (Timed false t)) (record { priority = p; form = f }) g q
          (unfold content_by in record { is-content = λ i. some (record { priority = p; time = sym a i; event = sym b i }); is_plain = z })
      go (lacks z) q = found_none (at (Timed false t)) g q (no_number (record { priority = p; time = t; event = event_content e n xs }) refl z)

pub every-line-told : EveryLineTold
every-line-told l h =
    let w = stored_when l.when in
    let e = stored_event l.event in
    let b = eqb (length l.values) 8 in
    let v = all (fits binary32) l.values in
    let k = and_r w (e && (b && v)) h in
    told-parts l.priority l.event l.count l.values l.when h (and_l w (e && (b && v)) h) (and_l e (b && v) k) (and_r b v (and_r e (b && v) k))
