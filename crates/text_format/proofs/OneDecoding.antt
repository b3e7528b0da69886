-- At most one list of lines encodes a text: each element of a line ends in one place. Assumes nothing.
use Prim.Native.Nat.{ℕ, zero, suc}
use native.Mathlib.Nat.{suc_inj}
use mathlib.Core.Path.{◌≡◌, refl, sym, ap, ◌∙◌}
use mathlib.Core.Bool.{false, true≢false}
use mathlib.Core.List.{List, [], ◌∷◌, ◌++◌, append_assoc, append_cancel_left, tail-eq_of_cons-eq}
use mathlib.Core.Option.{Option, none, some}
use Rattle.text_numerals.specs.Numeral.{Numeral, Valid, encoded, name_bytes}
use Rattle.text_numerals.specs.inside.Reading.{got, starts_with}
use Rattle.text_numerals.proofs.Readings.{Same, not-got, name-one, number-one}
use Rattle.text_format.specs.Content.{Content}
use Rattle.text_format.specs.Form.{newline, space, control_word, tempo_word, end_word, Behind, Label, Form, instr, control, tempo, end, TextLine, spaces, behind_bytes, behind_name, behind_number, label_bytes, target_bytes, value_bytes, star_bytes, line_bytes, text_bytes, ValidName, ValidLabel, ValidTarget, ValidValues, ValidForm, ValidLines, label_content, target_content, event_content, content_by}
use Rattle.text_format.specs.inside.Reading.{line_from}
use Rattle.text_format.specs.Claims.{OneDecoding}
use Rattle.text_format.proofs.Elements.{Parted, behind-apart, name-here, number-here, behind-parted, newline-parted, values-parted, colon-parted}
use Rattle.text_format.proofs.FormBytes.{form_then, form-apart, label-apart, line-apart}
use Rattle.text_format.proofs.Lines.{line-complete}

-- ---- elements

spaces-one : (m n : ℕ) (r q : List ℕ) → starts_with space r ≡ false → starts_with space q ≡ false → spaces m ++ r ≡ spaces n ++ q → Same m n r q
unfolding spaces starts_with
spaces-one zero zero r q h g e = record { one = refl; after = e }
spaces-one zero (suc n) r q h g e = absurd (true≢false (ap (starts_with space) (sym e) ∙ h))
spaces-one (suc m) zero r q h g e = absurd (true≢false (ap (starts_with space) e ∙ g))
spaces-one (suc m) (suc n) r q h g e = let s = spaces-one m n r q h g (tail-eq_of_cons-eq e) in record { one = ap suc s.one; after = s.after }

behind-one : {X : Type 0} (bytes : X → List ℕ) (x y : Behind X) (r q : List ℕ) → starts_with space (bytes x.element ++ r) ≡ false
    → starts_with space (bytes y.element ++ q) ≡ false
    → (bytes x.element ++ r ≡ bytes y.element ++ q → Same x.element y.element r q)
    → behind_bytes x.more (bytes x.element) ++ r ≡ behind_bytes y.more (bytes y.element) ++ q → Same x y r q
behind-one bytes x y r q h g f e =
    let s = spaces-one (suc x.more) (suc y.more) _ _ h g (sym (behind-apart x.more (bytes x.element) r) ∙ e ∙ behind-apart y.more (bytes y.element) q)
    in
    let t = f s.after in
    let m : x.more ≡ y.more = suc_inj s.one in
    record { one = λ i. record { more = m i; element = t.one i }; after = t.after }

word-one : (more least : ℕ) (word r q : List ℕ) → starts_with space (word ++ r) ≡ false → starts_with space (word ++ q) ≡ false
    → behind_bytes more word ++ r ≡ behind_bytes least word ++ q → Same more least r q
word-one more least word r q h g e =
    let s = behind-one (λ (u : Unit {0}). word) (record { more = more; element = tt }) (record { more = least; element = tt }) r q h g
    (λ f. record { one = refl; after = append_cancel_left word r q f }) e in
    record { one = ap (λ (z : Behind (Unit {0})). z.more) s.one; after = s.after }

time-one : (t s : Numeral) {r q : List ℕ} → Valid t → Valid s → Parted r → Parted q → encoded t ++ r ≡ encoded s ++ q → Same t s r q
time-one t s l k h g e = number-one _ _ h.no_digit g.no_digit h.no-point g.no-point t s l k e

next-name-one : (x y : Behind ℕ) {r q : List ℕ} → ValidName x.element → ValidName y.element → Parted r → Parted q → behind_name x ++ r ≡ behind_name y ++ q
    → Same x y r q
next-name-one x y l k h g e =
    behind-one name_bytes x y _ _ (name-here x.element _) (name-here y.element _) (λ f. name-one x.element y.element _ _ l k h.no_digit g.no_digit f) e

next-number-one : (x y : Behind Numeral) {r q : List ℕ} → Valid x.element → Valid y.element → Parted r → Parted q → behind_number x ++ r ≡ behind_number y ++ q
    → Same x y r q
next-number-one x y l k h g e =
    behind-one encoded x y _ _ (number-here x.element _ l) (number-here y.element _ k) (λ f. time-one x.element y.element l k h g f) e

-- no values, and some
value_there : {P : Type 0} (x : Behind Numeral) (xs : List (Behind Numeral)) (r q : List ℕ) → newline ∷ r ≡ value_bytes (x ∷ xs) ++ q → P
unfolding value_bytes starts_with
value_there x xs r q e = absurd (true≢false (ap (starts_with newline) e))

values_one : (vs us : List (Behind Numeral)) (r q : List ℕ) → ValidValues vs → ValidValues us → value_bytes vs ++ (newline ∷ r) ≡ value_bytes us ++ (newline ∷ q)
    → Same vs us r q
unfolding value_bytes ValidValues
values_one [] [] r q l k e = record { one = refl; after = tail-eq_of_cons-eq e }
values_one [] (u ∷ us) r q l k e = value_there u us r (newline ∷ q) e
values_one (v ∷ vs) [] r q l k e = value_there v vs q (newline ∷ r) (sym e)
values_one (v ∷ vs) (u ∷ us) r q l k e =
    let s = next-number-one v u l.0 k.0 (values-parted vs r) (values-parted us q)
    (sym (append_assoc (behind_number v) (value_bytes vs) _) ∙ e ∙ append_assoc (behind_number u) (value_bytes us) _) in
    let t = values_one vs us r q l.1 k.1 s.after in
    record { one = λ i. s.one i ∷ t.one i; after = t.after }

-- a label or none, its colon, and the spaces round it
label-one : (l k : Option Label) (r q : List ℕ) → ValidLabel l → ValidLabel k → label_content l ≡ label_content k → starts_with space r ≡ false → starts_with space q ≡ false
    → label_bytes l ++ r ≡ label_bytes k ++ q → Same l k r q
unfolding label_bytes starts_with
label-one none none r q a b s h g e = record { one = refl; after = e }
label-one none (some k) r q a b s h g e = record { one = cc; after = cc }
label-one (some l) none r q a b s h g e = record { one = cc; after = cc }
label-one (some l) (some k) r q a b s h g e =
    let x = name-one l.name k.name _ _ a b (colon-parted l.before _) (colon-parted k.before _) (sym (label-apart l r) ∙ e ∙ label-apart k q) in
    let y = spaces-one l.before k.before _ _ refl refl x.after in
    let z = spaces-one l.after k.after r q h g (tail-eq_of_cons-eq y.after) in
    record { one = λ i. some (record { name = x.one i; before = y.one i; after = z.one i }); after = z.after }

-- a control line's label or none
target-parted : (l : Option (Behind ℕ)) (more : ℕ) (bytes after : List ℕ) → Parted (target_bytes l ++ (behind_bytes more bytes ++ after))
unfolding target_bytes
target-parted none more bytes after = behind-parted more bytes after
target-parted (some l) more bytes after = behind-parted l.more (name_bytes l.element) _

target_one : (l k : Option (Behind ℕ)) {r q : List ℕ} → ValidTarget l → ValidTarget k → target_content l ≡ target_content k → Parted r → Parted q
    → target_bytes l ++ r ≡ target_bytes k ++ q → Same l k r q
unfolding target_bytes
target_one none none a b s h g e = record { one = refl; after = e }
target_one none (some k) a b s h g e = record { one = cc; after = cc }
target_one (some l) none a b s h g e = record { one = cc; after = cc }
target_one (some l) (some k) a b s h g e = let x = next-name-one l k a b h g e in record { one = ap some x.one; after = x.after }

-- ---- forms

form-one : (r q : List ℕ) (f g : Form) → ValidForm f → ValidForm g → event_content f ≡ event_content g → form_then f (newline ∷ r) ≡ form_then g (newline ∷ q) → f ≡ g
unfolding ValidForm starts_with
form-one r q (instr l t n d vs) (instr k s m c us) a b h e =
    let u = label-one l k _ _ a.0 b.0 (cc) (number-here t _ a.1.0) (number-here s _ b.1.0) e in
    let v = time-one t s a.1.0 b.1.0 (behind-parted n.more (name_bytes n.element) _) (behind-parted m.more (name_bytes m.element) _) u.after in
    let w = next-name-one n m a.1.1.0 b.1.1.0 (behind-parted d.more (encoded d.element) _) (behind-parted c.more (encoded c.element) _) v.after
    in
    let x = next-number-one d c a.1.1.1.0 b.1.1.1.0 (values-parted vs r) (values-parted us q) w.after in
    let y = values_one vs us r q a.1.1.1.1 b.1.1.1.1 x.after in
    λ i. instr (u.one i) (v.one i) (w.one i) (x.one i) (y.one i)
form-one r q (control t l more n x) (control s k least m y) a b h e =
    let u = time-one t s a.0 b.0 (target-parted l more control_word _) (target-parted k least control_word _) e in
    let v = target_one l k a.1.0 b.1.0 (cc) (behind-parted more control_word _) (behind-parted least control_word _) u.after in
    let w = word-one more least control_word _ _ refl refl v.after in
    let i = next-name-one n m a.1.1.0 b.1.1.0 (behind-parted x.more (encoded x.element) _) (behind-parted y.more (encoded y.element) _) w.after
    in
    let j = next-number-one x y a.1.1.1 b.1.1.1 (newline-parted r) (newline-parted q) i.after in
    λ z. control (u.one z) (v.one z) (w.one z) (i.one z) (j.one z)
form-one r q (tempo t more x) (tempo s least y) a b h e =
    let u = time-one t s a.0 b.0 (behind-parted more tempo_word _) (behind-parted least tempo_word _) e in
    let w = word-one more least tempo_word _ _ refl refl u.after in
    let v = next-number-one x y a.1 b.1 (newline-parted r) (newline-parted q) w.after in
    λ i. tempo (u.one i) (w.one i) (v.one i)
form-one r q (end t more) (end s least) a b h e =
    let u = time-one t s a b (behind-parted more end_word _) (behind-parted least end_word _) e in
    let w = word-one more least end_word _ _ refl refl u.after in
    λ i. end (u.one i) (w.one i)
form-one r q (instr l t n d vs) (control s k least m y) a b h e = cc
form-one r q (instr l t n d vs) (tempo s least y) a b h e = cc
form-one r q (instr l t n d vs) (end s least) a b h e = cc
form-one r q (control t l more n x) (instr k s m c us) a b h e = cc
form-one r q (control t l more n x) (tempo s least y) a b h e = cc
form-one r q (control t l more n x) (end s least) a b h e = cc
form-one r q (tempo t more x) (instr k s m c us) a b h e = cc
form-one r q (tempo t more x) (control s k least m y) a b h e = cc
form-one r q (tempo t more x) (end s least) a b h e = cc
form-one r q (end t more) (instr k s m c us) a b h e = cc
form-one r q (end t more) (control s k least m y) a b h e = cc
form-one r q (end t more) (tempo s least y) a b h e = cc

-- ---- lines and texts

line-one : (w v : TextLine) (r q : List ℕ) → ValidForm w.form → ValidForm v.form → line_bytes w ++ r ≡ line_bytes v ++ q → Same w v r q
unfolding content_by
line-one w v r q l k e =
    let both : got (content_by w) r ≡ got (content_by v) q = sym (line-complete w r l) ∙ ap line_from e ∙ line-complete v q k in
    let says : content_by w ≡ content_by v = cc in
    let p : w.priority ≡ v.priority = ap (λ (z : Content). z.priority) says in
    let f = form-one r q w.form v.form l k (ap (λ (z : Content). z.event) says)
    (append_cancel_left (star_bytes w.priority) _ _ (cc (line-apart w r, line-apart v q, form-apart w.form (newline ∷ r), form-apart v.form (newline ∷ q)))) in
    record { one = λ i. record { priority = p i; form = f i }; after = cc }

line-there : {P : Type 0} (w : TextLine) (r : List ℕ) → ValidForm w.form → line_bytes w ++ r ≡ [] → P
unfolding line_from
line-there w r l e = not-got (ap line_from (sym e) ∙ line-complete w r l)

lines-one : (ws vs : List TextLine) → ValidLines ws → ValidLines vs → text_bytes ws ≡ text_bytes vs → ws ≡ vs
unfolding text_bytes ValidLines
lines-one [] [] l k e = refl
lines-one [] (v ∷ vs) l k e = line-there v (text_bytes vs) k.0 (sym e)
lines-one (w ∷ ws) [] l k e = line-there w (text_bytes ws) l.0 e
lines-one (w ∷ ws) (v ∷ vs) l k e =
    let s = line-one w v (text_bytes ws) (text_bytes vs) l.0 k.0 e in
    λ i. s.one i ∷ lines-one ws vs l.1 k.1 s.after i

pub one-decoding : OneDecoding
one-decoding bytes ws vs s t = lines-one ws vs s.valid t.valid (s.encoded ∙ sym t.encoded)
