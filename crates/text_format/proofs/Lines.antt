-- A line is read where it is validly encoded, as what it says, and nowhere else. Assumes nothing.
use Prim.Native.Nat.{ℕ, suc}
use mathlib.Core.Path.{◌≡◌, refl, sym, ap, ◌∙◌, subst₂}
use mathlib.Core.Bool.{Bool, true, false}
use mathlib.Core.List.{List, ◌∷◌, ◌++◌, map}
use mathlib.Core.Option.{Option, none, some}
use lib.ListN.{length}
use Rattle.base_laws.proofs.Choice.{cond-false, cond-from}
use Rattle.text_numerals.specs.Numeral.{name_letter, Numeral, Valid, encoded, meaning, name_bytes}
use Rattle.text_numerals.specs.inside.Reading.{got, refused, starts_with, rest, is_digit, number_from, name_from}
use Rattle.text_numerals.proofs.Readings.{Found, not-got, then-got, starts, number-starts, number-complete, number-sound, name-complete, name-sound}
use Rattle.text_format.specs.Content.{Content}
use Rattle.text_format.specs.Content as content
use Rattle.text_format.specs.Form.{newline, space, star, colon, control_word, tempo_word, end_word, Behind, Label, Form, instr, control, tempo, end, TextLine, spaces, behind_bytes, behind_name, behind_number, label_bytes, target_bytes, value_bytes, form_bytes, star_bytes, line_bytes, ValidName, ValidLabel, ValidTarget, ValidForm, label_content, target_content, time_content, event_content, content_by}
use Rattle.text_format.specs.inside.Reading.{gap_from, colon_from, word_from, next_name, next_number, values_from, instr_from, control_from, tempo_from, end_from, event_from, content_at, labelled_from, timed_from, body_from, line_from}
use Rattle.text_format.proofs.Elements.{gap-sound, colon-complete, colon-parted, colon-sound, word_sound, ending-sound, behind-apart, behind-gap, name-here, number-here, value, next-name-complete, next-name-sound, next-number-sound, values-sound, behind-parted}
use Rattle.text_format.proofs.FormBytes.{form_then, form-apart, label-apart, line-apart}
use Rattle.text_format.proofs.Events.{instr-complete, event-instr, event-labelled, event-control, event-tempo, event-end}

-- ---- every valid line

-- a line that begins with its time
timed-complete : (priority : Bool) (t : Numeral) (more : ℕ) (bytes r : List ℕ) {e : content.Event} {after : List ℕ} → Valid t → starts_with space (bytes ++ r) ≡ false
    → event_from (bytes ++ r) ≡ got e after
    → body_from priority (encoded t ++ (behind_bytes more bytes ++ r)) ≡ got (content_at priority (meaning t) e) after
unfolding body_from timed_from
timed-complete priority t more bytes r l h e =
    let p = behind-parted more bytes r in
    rw (
      number-starts name_letter t (behind_bytes more bytes ++ r) l (unfold is_digit in refl) refl,
      number-complete t (behind_bytes more bytes ++ r) l p.no_digit
          p.no-point,
      behind-gap more bytes r h,
      e,
    )

-- a line that begins with a label
labelled-complete : (priority : Bool) (l : Label) (t : Numeral) (n : Behind ℕ) (d : Behind Numeral) (vs : List (Behind Numeral)) (after : List ℕ)
    → ValidForm (instr (some l) t n d vs)
    → body_from priority (label_bytes (some l) ++ (encoded t ++ (behind_name n ++ (behind_number d ++ (value_bytes vs ++ (newline ∷ after))))))
    ≡ got (content_at priority (meaning t) (content.instr (some l.name) n.element (value d) (map value vs))) after
unfolding body_from ValidForm name_bytes meaning
labelled-complete priority l t n d vs after h =
    let third = behind_number d ++ (value_bytes vs ++ (newline ∷ after)) in
    let second = behind_name n ++ third in
    let first = encoded t ++ second in
    let p = behind-parted n.more (name_bytes n.element) third in
    rw (
      label-apart l first,
      name-complete l.name (spaces l.before ++ (colon ∷ (spaces l.after ++ first))) h.0
          (colon-parted l.before (spaces l.after ++ first)),
      colon-complete l.before l.after first (number-here t second h.1.0),
      number-complete t second h.1.0 p.no_digit p.no-point,
      next-name-complete n third h.1.1.0 (behind-parted d.more (encoded d.element) (value_bytes vs ++ (newline ∷ after))).no_digit,
      instr-complete (some l.name) n.element d vs after h.1.1.1.0 h.1.1.1.1,
    )

form-complete : (priority : Bool) (f : Form) (after : List ℕ) → ValidForm f
    → body_from priority (form_bytes f ++ (newline ∷ after)) ≡ got (content_at priority (meaning (time_content f)) (event_content f)) after
form-complete priority f after l = ap (body_from priority) (form-apart f (newline ∷ after)) ∙ go f l
  where
    go : (g : Form) → ValidForm g → body_from priority (form_then g (newline ∷ after)) ≡ got (content_at priority (meaning (time_content g)) (event_content g)) after
    go (instr none t n d vs) k =
        unfold label_bytes ValidForm in
        timed-complete priority t n.more (name_bytes n.element) _ k.1.0 (name-here n.element _)
        (event-instr n.element d vs after k.1.1.0 k.1.1.1.0 k.1.1.1.1)
    go (instr (some i) t n d vs) k = labelled-complete priority i t n d vs after k
    go (control t none more n x) k =
        unfold target_bytes starts_with ValidForm in timed-complete priority t more control_word _ k.0 refl (event-control n x after k.1.1.0 k.1.1.1)
    go (control t (some i) more n x) k =
        unfold target_bytes ValidForm in
        timed-complete priority t i.more (name_bytes i.element) _ k.0 (name-here i.element _)
        (event-labelled i n more x after k.1.0 k.1.1.0 k.1.1.1)
    go (tempo t more x) k = unfold starts_with ValidForm in timed-complete priority t more tempo_word _ k.0 refl (event-tempo x after k.1)
    go (end t more) k = unfold starts_with ValidForm in timed-complete priority t more end_word _ k refl (event-end after)

-- a line without its star begins with none
no-star : (priority : Bool) (bs : List ℕ) {s : Content} {after : List ℕ} → body_from priority bs ≡ got s after → starts_with star bs ≡ false
no-star priority bs e = go (starts_with star bs) refl
  where
    starred : (cs : List ℕ) → body_from priority (star ∷ cs) ≡ refused
    starred cs = unfold body_from in refl

    go : (t : Bool) → starts_with star bs ≡ t → t ≡ false
    go true h = not-got (sym (starred (rest bs)) ∙ ap (body_from priority) (sym (starts star bs h)) ∙ e)
    go false h = refl

pub line-complete : (w : TextLine) (after : List ℕ) → ValidForm w.form → line_from (line_bytes w ++ after) ≡ got (content_by w) after
unfolding line_from content_by star_bytes
line-complete w after l = ap line_from (line-apart w after) ∙ go w.priority (λ p. form-complete p w.form after l)
  where
    bs : List ℕ
    bs = form_bytes w.form ++ (newline ∷ after)

    go : (p : Bool) → ((q : Bool) → body_from q bs ≡ got (content_at q (meaning (time_content w.form)) (event_content w.form)) after)
        → line_from (star_bytes p ++ bs) ≡ got (content_at p (meaning (time_content w.form)) (event_content w.form)) after
    go true f = f true
    go false f = cond-false _ _ (no-star false bs (f false)) ∙ f false

-- ---- nothing else

-- a line behind its star
abbrev FoundBody : Bool → List ℕ → Content → List ℕ → Type 0
FoundBody priority bs s after = Found form_bytes ValidForm (λ f. content_at priority (meaning (time_content f)) (event_content f)) bs s (newline ∷ after)

-- what was read behind a time, and behind what stands round it
module _ (priority : Bool) (t : Numeral) (l : Valid t) (bs r : List ℕ) {e : content.Event} {after : List ℕ} where
  instr-found : (label : Option Label) (n : Behind ℕ) → ValidLabel label → ValidName n.element → bs ≡ label_bytes label ++ (encoded t ++ (behind_name n ++ r))
      → instr_from (label_content label) n.element r ≡ got e after → FoundBody priority bs (content_at priority (meaning t) e) after
  unfolding instr_from ValidForm
  instr-found label n k j q h =
      then-got (next_number r) h (λ v r₁ a h₁. then-got (values_from (length r₁) r₁) h₁ (λ us r₂ b h₂.
      let d = next-number-sound r v r₁ a in
      let vs = values-sound (length r₁) r₁ us r₂ b in
      let f = instr label t n d.one vs.one in
      record { one = f; valid = (k, (l, (j, (d.valid, vs.valid)))); encodes = cc (form-apart f (newline ∷ after)); says = cc }))

  control-found : (target : Option (Behind ℕ)) (more : ℕ) → ValidTarget target → bs ≡ encoded t ++ (target_bytes target ++ (spaces (suc more) ++ r))
      → control_from (target_content target) r ≡ got e after → FoundBody priority bs (content_at priority (meaning t) e) after
  unfolding control_from ValidForm
  control-found target more k q h =
      then-got (word_from control_word r) h (λ u r₁ a h₁. then-got (next_name r₁) h₁ (λ m r₂ b h₂. then-got (next_number r₂) h₂ (λ v r₃ c h₃.
      let n = next-name-sound r₁ m r₂ b in
      let x = next-number-sound r₂ v r₃ c in
      let y = ending-sound (content.control (target_content target) m v) r₃ h₃ in
      let f = control t target more n.one x.one in
      record {
        one = f;
        valid = (l, (k, (n.valid, x.valid)));
        encodes = cc
            (form-apart f (newline ∷ after), behind-apart more control_word r₁, word_sound control_word r a);
        says = cc;
      })))

  tempo-found : (more : ℕ) → bs ≡ encoded t ++ (spaces (suc more) ++ r) → tempo_from r ≡ got e after → FoundBody priority bs (content_at priority (meaning t) e) after
  unfolding tempo_from ValidForm
  tempo-found more q h =
      then-got (word_from tempo_word r) h (λ u r₁ a h₁. then-got (next_number r₁) h₁ (λ v r₂ b h₂.
      let x = next-number-sound r₁ v r₂ b in
      let y = ending-sound (content.tempo v) r₂ h₂ in
      let f = tempo t more x.one in
      record { one = f; valid = (l, x.valid); encodes = cc (form-apart f (newline ∷ after), behind-apart more tempo_word r₁, word_sound tempo_word r a); says = cc }))

  end-found : (more : ℕ) → bs ≡ encoded t ++ (spaces (suc more) ++ r) → end_from r ≡ got e after → FoundBody priority bs (content_at priority (meaning t) e) after
  unfolding end_from ValidForm
  end-found more q h =
      then-got (word_from end_word r) h (λ u r₁ a h₁.
      let y = ending-sound content.end r₁ h₁ in
      record { one = end t more; valid = l; encodes = cc (form-apart (end t more) (newline ∷ after), behind-apart more end_word r₁, word_sound end_word r a); says = cc })

-- behind a name: a control line's label, or an instrument
event-found : (priority : Bool) (t : Numeral) → Valid t → (bs r : List ℕ) (more : ℕ) {e : content.Event} {after : List ℕ} → bs ≡ encoded t ++ (spaces (suc more) ++ r)
    → event_from r ≡ got e after
    → FoundBody priority bs (content_at priority (meaning t) e) after
unfolding event_from target_bytes label_bytes
event-found priority t l bs r more q h =
    cond-from (starts_with name_letter r) h
    (λ p f. then-got (name_from r) f (λ m r₁ a f₁. then-got (gap_from r₁) f₁ (λ u r₂ b f₂.
    let n = name-sound r m r₁ a in
    let g = gap-sound r₁ b in
    let i = behind-apart more (name_bytes n.one) r₁ in
    let s = n.says in
    cond-from (starts_with 99 r₂) f₂
    (λ o k. control-found priority t l bs r₂ (some (record { more = more; element = n.one })) g.more n.valid (cc) (rw s at k))
    (λ o k. instr-found priority t l bs r₁ none (record { more = more; element = n.one }) tt n.valid (cc) (rw s at k)))))
    (λ p f.
    cond-from (starts_with 99 r) f (λ o g. control-found priority t l bs r none more tt q g)
    (λ o g. cond-from (starts_with 116 r) g (λ m k. tempo-found priority t l bs r more q k) (λ m k. end-found priority t l bs r more q k)))

body-moved : (priority : Bool) (bs : List ℕ) {s t : Content} {after r : List ℕ} → got t r ≡ got s after → FoundBody priority bs t r → FoundBody priority bs s after
body-moved priority bs e f = subst₂ (λ (x : Content) (y : List ℕ). FoundBody priority bs x y) (cc) (cc) f

timed-sound : (priority : Bool) (bs : List ℕ) {s : Content} {after : List ℕ} → timed_from priority bs ≡ got s after → FoundBody priority bs s after
unfolding timed_from
timed-sound priority bs h =
    then-got (number_from bs) h (λ v r₁ a h₁. then-got (gap_from r₁) h₁ (λ u r₂ b h₂. then-got (event_from r₂) h₂ (λ e r₃ c h₃.
    let t = number-sound bs v r₁ a in
    let g = gap-sound r₁ b in
    let i = t.says in
    body-moved priority bs (rw i at h₃) (event-found priority t.one t.valid bs r₂ g.more (cc) c))))

labelled-sound : (priority : Bool) (bs : List ℕ) {s : Content} {after : List ℕ} → labelled_from priority bs ≡ got s after → FoundBody priority bs s after
unfolding labelled_from
labelled-sound priority bs h =
    then-got (name_from bs) h (λ m r₁ a h₁. then-got (colon_from r₁) h₁ (λ u r₂ b h₂. then-got (number_from r₂) h₂ (λ v r₃ c h₃.
    then-got (next_name r₃) h₃ (λ p r₄ d h₄. then-got (instr_from (some m) p r₄) h₄ (λ e r₅ f h₅.
    let x = name-sound bs m r₁ a in
    let k = colon-sound r₁ b in
    let t = number-sound r₂ v r₃ c in
    let y = next-name-sound r₃ p r₄ d in
    let l : Label = record { name = x.one; before = k.before; after = k.behind } in
    let i = t.says in
    let z : instr_from (some x.one) y.one.element r₄ ≡ got e r₅ = cc in
    body-moved priority bs (rw i at h₅) (instr-found priority t.one t.valid bs r₄ (some l) y.one x.valid y.valid (cc (label-apart l r₂)) z))))))

body-sound : (priority : Bool) (bs : List ℕ) {s : Content} {after : List ℕ} → body_from priority bs ≡ got s after → FoundBody priority bs s after
unfolding body_from
body-sound priority bs h = cond-from (starts_with name_letter bs) h (λ t e. labelled-sound priority bs e) (λ t e. timed-sound priority bs e)

pub line-sound : (bs : List ℕ) (s : Content) (after : List ℕ) → line_from bs ≡ got s after → Found line_bytes (λ w. ValidForm w.form) content_by bs s after
unfolding line_from star_bytes content_by
line-sound bs s after h =
    cond-from (starts_with star bs) h (λ t e. found true (rest bs) (starts star bs t) (body-sound true (rest bs) e)) (λ t e. found false bs refl (body-sound false bs e))
  where
    found : (priority : Bool) (cs : List ℕ) → bs ≡ star_bytes priority ++ cs → FoundBody priority cs s after
        → Found line_bytes (λ w. ValidForm w.form) content_by bs s after
    found priority cs q f =
        let w : TextLine = record { priority = priority; form = f.one } in
        record { one = w; valid = f.valid; encodes = cc (line-apart w after); says = f.says }
