-- A text's lines put into an area, and the ways of decoding a text. Assumes nothing.
use Prim.Native.Nat.{ℕ, zero, suc, ◌+◌, ◌*◌, ◌/◌, ◌≤◌, ◌<◌}
use mathlib.Core.Path.{◌≡◌, refl, sym, ap, ◌∙◌, subst}
use mathlib.Core.Bool.{Bool, true, false}
use mathlib.Core.List.{List, ◌∷◌}
use native.Mathlib.Omega.{arith}
use lib.ListN.{length}
use Rattle.base_answer.specs.Numbers.{is_taken}
use Rattle.base_answer.specs.declared.Answer.TheVariants.{Taken, NoRoom, BadText}
use Rattle.std.specs.Prelude.{Option}
use Rattle.std.specs.Option.{unwrap_or}
use Rattle.score_line.specs.Reading.{refused_line}
use Rattle.score_line.specs.declared.Line.{Line}
use Rattle.score_line.specs.LineFormat.{slot_words}
use Rattle.score_line_writer.specs.Writing.{line_slot}
use Rattle.score_decoder.specs.Area.{area_words, laid, DecodesTo}
use Rattle.score_decoder.specs.inside.Area.{SlotPut}
use Rattle.score_decoder.proofs.Filling.{passed, Filling, filling-start, filling-more, filling-end}
use Rattle.score_decoder.proofs.Slots.{taken_is, left-refused, left-short, left-taken}
use Rattle.text_format.specs.inside.Reading.{text_of}
use Rattle.score_line.specs.declared.LineRead.{LineRead}
use Rattle.text_event_reader.specs.Results.{step_of}
use Rattle.text_reader.specs.Texts.{text_told, line_at, walked}
use Rattle.text_reader.specs.declared.TextRead.{TextRead}
use Rattle.text_reader.proofs.Walk.{walk-all}

-- ---- the lines of a text

walked-passes : (s : List ℕ) (n at : ℕ) → passed (λ x. (step_of (line_at s x)).0.line) (λ x. (step_of (line_at s x)).1) n at ≡ walked s n at
unfolding walked
walked-passes s zero at = refl
walked-passes s (suc n) at = ap (λ (ls : List Line). (step_of (line_at s at)).0.line ∷ ls) (walked-passes s n (step_of (line_at s at)).1)

module _ (s : List ℕ) (n : ℕ) (old : List ℕ) where
  abbrev pub Filled : List ℕ → ℕ → ℕ → Type 0
  Filled new at i = Filling (λ x. (step_of (line_at s x)).0.line) (λ x. (step_of (line_at s x)).1) n 0 old new at i

  pub fill_start : Filled old 0 0
  fill_start = filling-start (λ x. (step_of (line_at s x)).0.line) (λ x. (step_of (line_at s x)).1) n 0 old

  pub fill_more : (new next slot : List ℕ) (at i : ℕ) {x : Option (LineRead × ℕ)} {d : LineRead} {l : LineRead × ℕ} → Filled new at i → i < n → x ≡ line_at s at → d ≡ refused_line BadText
      → l ≡ unwrap_or x (d, 0) → slot ≡ line_slot l.0.line → length next ≡ length new
      → SlotPut new (slot_words * i) slot next
      → Filled next l.1 (i + 1)
  fill_more new next slot at i f h a b c g k p =
      let e = c ∙ (λ j. unwrap_or (a j) (b j, 0)) in
      filling-more (λ x. (step_of (line_at s x)).0.line) (λ x. (step_of (line_at s x)).1) n 0 old new next slot at i f h (ap (λ (x : LineRead × ℕ). x.1) e)
      (g ∙ ap (λ (x : LineRead × ℕ). line_slot x.0.line) e) k p

  pub fill_end : (new : List ℕ) (at i : ℕ) → Filled new at i → n ≤ i → new ≡ laid (area_words (walked s n 0)) old
  fill_end new at i f h =
      filling-end (λ x. (step_of (line_at s x)).0.line) (λ x. (step_of (line_at s x)).1) n 0 old new at i f h ∙ ap (λ (ls : List Line). laid (area_words ls) old) (walked-passes s n 0)

-- ---- the answers

module _ (s old : List ℕ) {r : TextRead} {b : Bool} (e : r ≡ text_told (text_of s)) (f : b ≡ is_taken r.answer) where
  answer-is : is_taken (text_of s).answer ≡ b
  unfolding text_told
  answer-is = sym (f ∙ ap (λ (x : TextRead). is_taken x.answer) e)

  lines_are : length (text_of s).lines ≡ r.count
  unfolding text_told
  lines_are = sym (ap (λ (x : TextRead). x.count) e)

  pub text-refused : b ≡ false → DecodesTo (text_of s) old old (record { answer = r.answer; line = r.line; count = 0 })
  unfolding text_told
  text-refused g = subst (λ (x : TextRead). DecodesTo (text_of s) old old (record { answer = x.answer; line = x.line; count = 0 })) (sym e) (left-refused (text_of s) old (answer-is ∙ g))

  module _ (g : b ≡ true) where
    pub text-short : length old / slot_words < r.count → DecodesTo (text_of s) old old (record { answer = NoRoom; line = 0; count = 0 })
    text-short h = left-short (text_of s) old (answer-is ∙ g) (omega (arith, lines_are))

    pub text-taken : (new : List ℕ) → r.count ≤ length old / slot_words → new ≡ laid (area_words (walked s r.count 0)) old → DecodesTo (text_of s) old new (record { answer = Taken; line = 0; count = r.count })
    text-taken new h n =
        subst (λ (j : ℕ). DecodesTo (text_of s) old new (record { answer = Taken; line = 0; count = j })) lines_are
        (left-taken (text_of s) old new (answer-is ∙ g) (omega (arith, lines_are))
        (n ∙ ap (λ (ls : List Line). laid (area_words ls) old) (ap (λ (j : ℕ). walked s j 0) (sym lines_are) ∙ walk-all s (taken_is (text_of s).answer (answer-is ∙ g)))))
