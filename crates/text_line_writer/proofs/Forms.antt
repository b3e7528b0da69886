-- The text of a whole line, from its pieces. Assumes nothing.
use Prim.Native.Nat.{ℕ}
use mathlib.Core.Path.{◌≡◌, refl, ap, ◌∙◌}
use mathlib.Core.Bool.{Bool, true, false}
use mathlib.Core.List.{List, [], ◌∷◌, map}
use mathlib.Core.Option
use mathlib.Core.Option.{Option, none, some}
use lib.Ieee.{Float}
use Rattle.text_numerals.specs.Numeral.{Numeral, encoded, name_bytes}
use Rattle.text_number_writer.specs.Push.{empty_text, pushed, push_all}
use Rattle.score_line.specs.LineFormat.{label_parts}
use Rattle.score_line.specs.declared.Label.{Label}
use Rattle.score_line.specs.declared.When.TheVariants.{Timed, Untimed}
use Rattle.score_line.specs.declared.Event.{Event}
use Rattle.score_line.specs.declared.Line.{Line}
use Rattle.text_format.specs.Content as content
use Rattle.text_format.specs.Form.{Form, instr, control, tempo, end, newline, space, star, control_word, tempo_word, end_word, spaces, behind_bytes, label_bytes, target_bytes, value_bytes, form_bytes, star_bytes, line_bytes}
use Rattle.text_line_writer.specs.inside.NumberText.{number_text}
use Rattle.text_line_writer.specs.inside.LineText.{if_there, single, label_form, values_text, event_text, content_text, line_text}
use Rattle.text_line_writer.specs.LineText.{event_content}
use Rattle.text_line_writer.specs.inside.Drafts.{beside, drafted, Drafted, Joined, number_bytes, next_bytes, values_bytes, label_bytes_of, form_text}
use Rattle.text_number_writer.specs.declared.LineText.{LineText}
use Rattle.std.specs.Prelude.{Option as Optional, Some, None}
use Rattle.text_line_writer.proofs.Pieces.{one-byte, joined-then, pushed-then, pushed-last, joined-cut, joined_as}

-- ---- the events

values-pieces : (vs : List Float) → values_bytes vs ≡ Option.map (λ ts. value_bytes (map single ts)) (values_text vs)
unfolding values_bytes values_text
values-pieces [] = unfold value_bytes in refl
values-pieces (x ∷ xs) = ap (beside (next_bytes x)) (values-pieces xs) ∙ go (number_text x) (values_text xs)
  where
    go : (o : Option Numeral) (r : Option (List Numeral)) → beside (beside (some (space ∷ [])) (Option.map encoded o)) (Option.map (λ ts. value_bytes (map single ts)) r)
        ≡ Option.map (λ ts. value_bytes (map single ts)) (if_there o (λ t. Option.map (λ ts. t ∷ ts) r))
    go none r = refl
    go (some t) none = refl
    go (some t) (some ts) = unfold value_bytes behind_bytes spaces in refl

module _ (time : Float) where
  module _ (label : Label) (i : ℕ) (duration : Float) (vs : List Float) where
    instr-pieces : beside (some (label_bytes_of label)) (beside (number_bytes time) (beside (some (space ∷ name_bytes i)) (beside (next_bytes duration) (values_bytes vs))))
        ≡ form_text time (content.instr (label_parts label) i duration vs)
    unfolding number_bytes next_bytes label_bytes_of form_text event_text
    instr-pieces =
        ap (λ (b : Option (List ℕ)). beside (some (label_bytes_of label)) (beside (number_bytes time) (beside (some (space ∷ name_bytes i)) (beside (next_bytes duration) b))))
        (values-pieces vs) ∙ go (number_text time) (number_text duration) (values_text vs)
      where
        go : (o q : Option Numeral) (s : Option (List Numeral))
            → beside (some (label_bytes (Option.map label_form (label_parts label))))
            (beside (Option.map encoded o) (beside (some (space ∷ name_bytes i))
            (beside (beside (some (space ∷ [])) (Option.map encoded q)) (Option.map (λ ts. value_bytes (map single ts)) s))))
            ≡ Option.map form_bytes (if_there o (λ t. if_there q (λ x. Option.map
            (λ xs. instr (Option.map label_form (label_parts label)) t (single i) (single x) (map single xs)) s)))
        go none q s = refl
        go (some t) none s = refl
        go (some t) (some x) none = refl
        go (some t) (some x) (some ts) = unfold form_bytes behind_bytes spaces in refl

    module _ {t a : LineText} {o r : Optional LineText} (x : a ≡ push_all t (label_bytes_of label)) (y : Joined a (number_bytes time) o) where
      pub instr-timeless : o ≡ None → r ≡ None → Joined t (form_text time (content.instr (label_parts label) i duration vs)) r
      instr-timeless f g = joined_as instr-pieces (pushed-then _ x (joined-cut _ y f g))

      module _ {b c : LineText} {q : Optional LineText} (f : o ≡ Some b) (z : c ≡ push_all b (space ∷ name_bytes i)) (u : Joined c (next_bytes duration) q) where
        pub instr-endless : q ≡ None → r ≡ None → Joined t (form_text time (content.instr (label_parts label) i duration vs)) r
        instr-endless g h = joined_as instr-pieces (pushed-then _ x (joined-then y f (pushed-then _ z (joined-cut _ u g h))))

        pub instr-joins : {e : LineText} → q ≡ Some e → Joined e (values_bytes vs) r → Joined t (form_text time (content.instr (label_parts label) i duration vs)) r
        instr-joins g v = joined_as instr-pieces (pushed-then _ x (joined-then y f (pushed-then _ z (joined-then u g v))))

  module _ (label i : ℕ) (value : Float) where
    control-pieces : beside (number_bytes time) (beside (some (space ∷ name_bytes label))
        (beside (some (space ∷ control_word)) (beside (some (space ∷ name_bytes i)) (next_bytes value)))) ≡ form_text time (content.control (some label) i value)
    unfolding number_bytes next_bytes form_text event_text
    control-pieces = go (number_text time) (number_text value)
      where
        go : (o q : Option Numeral)
            → beside (Option.map encoded o) (beside (some (space ∷ name_bytes label))
            (beside (some (space ∷ control_word)) (beside (some (space ∷ name_bytes i)) (beside (some (space ∷ [])) (Option.map encoded q)))))
            ≡ Option.map form_bytes (if_there o (λ t. Option.map (λ y. control t (some (single label)) 0 (single i) (single y)) q))
        go none q = refl
        go (some t) none = refl
        go (some t) (some x) = unfold form_bytes target_bytes behind_bytes spaces in refl

    module _ {t : LineText} {o r : Optional LineText} (x : Joined t (number_bytes time) o) where
      pub control-timeless : o ≡ None → r ≡ None → Joined t (form_text time (content.control (some label) i value)) r
      control-timeless f g = joined_as control-pieces (joined-cut _ x f g)

      pub control-joins : {a b c e : LineText} → o ≡ Some a → b ≡ push_all a (space ∷ name_bytes label) → c ≡ push_all b (space ∷ control_word)
          → e ≡ push_all c (space ∷ name_bytes i) → Joined e (next_bytes value) r → Joined t (form_text time (content.control (some label) i value)) r
      control-joins f y z u v = joined_as control-pieces (joined-then x f (pushed-then _ y (pushed-then _ z (pushed-then _ u v))))

  module _ (value : Float) where
    tempo-pieces : beside (number_bytes time) (beside (some (space ∷ tempo_word)) (next_bytes value)) ≡ form_text time (content.tempo value)
    unfolding number_bytes next_bytes form_text event_text
    tempo-pieces = go (number_text time) (number_text value)
      where
        go : (o q : Option Numeral)
            → beside (Option.map encoded o) (beside (some (space ∷ tempo_word)) (beside (some (space ∷ [])) (Option.map encoded q))) ≡ Option.map form_bytes
            (if_there o (λ t. Option.map (λ y. tempo t 0 (single y)) q))
        go none q = refl
        go (some t) none = refl
        go (some t) (some x) = unfold form_bytes behind_bytes spaces in refl

    module _ {t : LineText} {o r : Optional LineText} (x : Joined t (number_bytes time) o) where
      pub tempo-timeless : o ≡ None → r ≡ None → Joined t (form_text time (content.tempo value)) r
      tempo-timeless f g = joined_as tempo-pieces (joined-cut _ x f g)

      pub tempo-joins : {a b : LineText} → o ≡ Some a → b ≡ push_all a (space ∷ tempo_word) → Joined b (next_bytes value) r → Joined t (form_text time (content.tempo value)) r
      tempo-joins f y z = joined_as tempo-pieces (joined-then x f (pushed-then _ y z))

  end-pieces : beside (number_bytes time) (some (space ∷ end_word)) ≡ form_text time content.end
  unfolding number_bytes form_text event_text
  end-pieces = go (number_text time)
    where
      go : (o : Option Numeral) → beside (Option.map encoded o) (some (space ∷ end_word)) ≡ Option.map form_bytes (if_there o (λ t. some (end t 0)))
      go none = refl
      go (some t) = unfold form_bytes behind_bytes spaces in refl

  module _ {t : LineText} {o : Optional LineText} (x : Joined t (number_bytes time) o) where
    pub end-timeless : {r : Optional LineText} → o ≡ None → r ≡ None → Joined t (form_text time content.end) r
    end-timeless f g = joined_as end-pieces (joined-cut _ x f g)

    pub end-joins : {a b : LineText} → o ≡ Some a → b ≡ push_all a (space ∷ end_word) → Joined t (form_text time content.end) (Some b)
    end-joins f y = joined_as end-pieces (joined-then x f (pushed-last y))

  -- by the event's arm
  pub as-event : {t : LineText} {r : Optional LineText} {e a : Event} (n : ℕ) (xs : List Float) → e ≡ a → Joined t (form_text time (event_content a n xs)) r → Joined t (form_text time (event_content e n xs)) r
  as-event n xs q j = rw q j

-- ---- the line

pub begun-plain : {r : LineText} (p : Bool) → p ≡ false → r ≡ empty_text → r ≡ push_all empty_text (star_bytes p)
unfolding star_bytes push_all
begun-plain p h e = rw h e

pub begun-star : {a r : LineText} (p : Bool) → p ≡ true → a ≡ empty_text → r ≡ pushed a star → r ≡ push_all empty_text (star_bytes p)
unfolding star_bytes push_all
begun-star p h e f = rw h (f ∙ ap (λ (x : LineText). pushed x star) e)

drafted_as : {r : Optional LineText} (o : Option (List ℕ)) → Joined empty_text o r → Drafted r o
unfolding drafted
drafted_as none e = record { told = e.is; holds = e.is }
drafted_as (some bytes) e = record { told = e.is; holds = e.is }

none_told : {r : Optional LineText} → r ≡ None → Drafted r none
none_told e = drafted_as none (record { is = e })

module _ (l : Line) where
  pub line-untimed : {r : Optional LineText} → l.when ≡ Untimed → r ≡ None → Drafted r (Option.map line_bytes (line_text l))
  unfolding line_text
  line-untimed e f = rw e (none_told f)

  pub line-late : {r : Optional LineText} (time : Float) {late : Bool} → l.when ≡ Timed late time → late ≡ true → r ≡ None
      → Drafted r (Option.map line_bytes (line_text l))
  unfolding line_text
  line-late time e h f = rw (e, h) (none_told f)

  module _ {b : LineText} {o r : Optional LineText} (time : Float) {late : Bool} (e : l.when ≡ Timed late time) (h : late ≡ false) (s : b ≡ push_all empty_text (star_bytes l.priority))
      (j : Joined b (form_text time (event_content l.event l.count l.values)) o) where
    line-as : Joined empty_text (beside (some (star_bytes l.priority)) (beside (form_text time (event_content l.event l.count l.values)) (some (newline ∷ [])))) r
        → Drafted r (Option.map line_bytes (line_text l))
    unfolding line_text content_text form_text
    line-as k =
        let event = event_content l.event l.count l.values in
        rw (e, h) (drafted_as _ (joined_as (go (if_there (number_text time) (event_text event))) k))
      where
        go : (o : Option Form)
            → beside (some (star_bytes l.priority)) (beside (Option.map form_bytes o) (some (newline ∷ []))) ≡ Option.map line_bytes
            (Option.map (λ f. record { priority = l.priority; form = f }) o)
        go none = refl
        go (some f) = unfold line_bytes in refl

    pub line-cut : o ≡ None → r ≡ None → Drafted r (Option.map line_bytes (line_text l))
    line-cut f g = line-as (pushed-then _ s (joined-cut _ j f g))

    pub line-timed : {u v : LineText} → o ≡ Some u → v ≡ pushed u newline → r ≡ Some v → Drafted r (Option.map line_bytes (line_text l))
    line-timed {u} f k g = line-as (pushed-then _ s (joined-then j f (record { is = g ∙ ap Some (k ∙ one-byte u newline) })))
