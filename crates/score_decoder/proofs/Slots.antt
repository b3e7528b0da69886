-- Slots put into an area, one after the other. Assumes nothing.
use Prim.Native.Nat.{ℕ, zero, suc, ◌+◌, ◌*◌, ◌/◌, ◌<◌, ◌≤◌}
use mathlib.Core.Path.{◌≡◌, refl, sym, ap, ◌∙◌, subst}
use mathlib.Core.Bool.{Bool, true, false, true≢false}
use mathlib.Core.List.{List, [], ◌∷◌, ◌++◌, append_assoc, append-nil}
use native.Mathlib.Numerals.{add-one}
use native.Mathlib.Omega.{arith}
use borrow.Author.Tests.{le-leb, lt-leb}
use lib.ListN.{length, get_or, take, drop, set, length-set}
use lib.Seq.{paste, paste-zero, paste-suc, take_all}
use Rattle.base_laws.proofs.Choice.{cond-true, cond-false}
use Rattle.base_answer.specs.Numbers.{is_taken}
use Rattle.base_answer.specs.declared.Answer.{Answer}
use Rattle.base_answer.specs.declared.Answer.TheVariants.{Taken, NoRoom}
use Rattle.base_answer.specs.declared.Answer.TheVariants as answer
use Rattle.score_line.specs.declared.Line.{Line}
use Rattle.score_line.specs.declared.LineRead.{LineRead}
use Rattle.score_line.specs.LineFormat.{slot_words}
use Rattle.score_line_writer.specs.Writing.{line_slot}
use Rattle.score_reader.specs.Score.{Score, score_of}
use Rattle.score_reader.specs.inside.Walk.{score_read_of, first_of, next_of, walked}
use Rattle.score_reader.specs.declared.ScoreRead.{ScoreRead}
use Rattle.score_reader.specs.declared.Cursor.{Cursor}
use Rattle.score_reader.specs.declared.Step.{Step}
use Rattle.score_reader.proofs.Walk.{answered, ahead-first, ahead-left, walk-all}
use Rattle.score_decoder.specs.declared.Decoded.{Decoded}
use Rattle.score_decoder.specs.Area.{area_words, laid, decoded_of, area_after, DecodesTo, carried}
use Rattle.score_decoder.specs.inside.Area.{SlotPut}
use Rattle.score_decoder.proofs.Filling.{passed, Filling, filling-start, filling-more, filling-end}

-- ---- one slot, word by word

module _ (old : List ℕ) (at : ℕ) (slot : List ℕ) where
  pub record Putting (new : List ℕ) (i : ℕ) : Type 0 where
    pub upto : i ≤ slot_words
    pub same : length new ≡ length old
    pub stands : new ≡ paste old at slot i

  pub put-start : Putting old 0
  put-start = record { upto = omega arith; same = refl; stands = paste-zero old at slot }

  pub put-more : (new : List ℕ) (i : ℕ) → at + slot_words ≤ length old → length slot ≡ slot_words → Putting new i → i < slot_words → Putting (set new (at + i) (get_or slot i 0)) (i + 1)
  put-more new i h l c k =
      record {
        upto = omega arith;
        same = length-set new (at + i) (get_or slot i 0) ∙ c.same;
        stands =
            ap (λ (x : List ℕ). set x (at + i) (get_or slot i 0)) c.stands ∙ paste-suc old at slot i 0 (omega arith) (omega arith)
            ∙ ap (λ (j : ℕ). paste old at slot j) (sym (add-one i));
      }

  pub put-end : (new : List ℕ) (i : ℕ) → length slot ≡ slot_words → Putting new i → slot_words ≤ i → SlotPut old at slot new
  put-end new i l c k =
      let e : i ≡ slot_words = omega (arith, c.upto) in
      record {
        long = l;
        stands =
            c.stands ∙ ap (λ (j : ℕ). paste old at slot j) e ∙ append_assoc (take at old) (take slot_words slot) (drop (at + slot_words) old)
            ∙ ap (λ (x : List ℕ). take at old ++ (x ++ drop (at + slot_words) old)) (take_all slot_words slot (omega arith));
      }

-- ---- the lines of a score

walked-passes : (bits : List Bool) (n : ℕ) (c : Cursor) → passed (λ x. (next_of bits x).line) (λ x. (next_of bits x).rest) n c ≡ walked bits n c
unfolding walked
walked-passes bits zero c = refl
walked-passes bits (suc n) c = ap (λ (ls : List Line). (next_of bits c).line ∷ ls) (walked-passes bits n (next_of bits c).rest)

module _ (bits : List Bool) (n : ℕ) (start : Cursor) (old : List ℕ) where
  abbrev pub Filled : List ℕ → Cursor → ℕ → Type 0
  Filled new c i = Filling (λ x. (next_of bits x).line) (λ x. (next_of bits x).rest) n start old new c i

  pub fill_start : Filled old start 0
  fill_start = filling-start (λ x. (next_of bits x).line) (λ x. (next_of bits x).rest) n start old

  pub fill_more : (new next slot : List ℕ) (c : Cursor) (i : ℕ) {s : Step} → Filled new c i → i < n → s ≡ next_of bits c → slot ≡ line_slot s.line → length next ≡ length new → SlotPut new (slot_words * i) slot next
      → Filled next s.rest (i + 1)
  fill_more new next slot c i f l e g k p =
      filling-more (λ x. (next_of bits x).line) (λ x. (next_of bits x).rest) n start old new next slot c i f l (ap (λ (x : Step). x.rest) e) (g ∙ ap (λ (x : Step). line_slot x.line) e) k p

  pub fill_end : (new : List ℕ) (c : Cursor) (i : ℕ) → Filled new c i → n ≤ i → new ≡ laid (area_words (walked bits n start)) old
  fill_end new c i f l =
      filling-end (λ x. (next_of bits x).line) (λ x. (next_of bits x).rest) n start old new c i f l ∙ ap (λ (ls : List Line). laid (area_words ls) old) (walked-passes bits n start)

-- ---- the answers

-- what a score that was read leaves, by its three ways
module _ (s : Score) (old : List ℕ) where
  pub left-refused : is_taken s.answer ≡ false → DecodesTo s old old (record { answer = s.answer; line = s.line; count = 0 })
  unfolding decoded_of area_after
  left-refused h = record { told = sym (cond-false _ _ h); area = sym (cond-false _ _ h) }

  pub left-short : is_taken s.answer ≡ true → length old < slot_words * length s.lines → DecodesTo s old old (record { answer = NoRoom; line = 0; count = 0 })
  unfolding decoded_of area_after
  left-short h k =
      let e = lt-leb (slot_words * length s.lines) (length old) k in
      record { told = sym (cond-true _ _ h ∙ cond-false _ _ e); area = sym (cond-true _ _ h ∙ cond-false _ _ e) }

  pub left-taken : (new : List ℕ) → is_taken s.answer ≡ true → slot_words * length s.lines ≤ length old → new ≡ laid (area_words s.lines) old
      → DecodesTo s old new (record { answer = Taken; line = 0; count = length s.lines })
  unfolding decoded_of area_after
  left-taken new h k n =
      let e = le-leb (slot_words * length s.lines) (length old) k in
      record { told = sym (cond-true _ _ h ∙ cond-true _ _ e); area = n ∙ sym (cond-true _ _ h ∙ cond-true _ _ e) }

-- what a call told
pub is-told : (s : Score) (old new : List ℕ) {x y : Decoded} → x ≡ y → DecodesTo s old new y → DecodesTo s old new x
is-told s old new e l = record { told = e ∙ l.told; area = l.area }

pub taken_is : (a : Answer) → is_taken a ≡ true → a ≡ Taken
taken_is answer.Taken e = refl
taken_is answer.CutShort e = absurd (true≢false (sym e))
taken_is answer.NotCarried e = absurd (true≢false (sym e))
taken_is answer.OutOfRange e = absurd (true≢false (sym e))
taken_is answer.NoInstrument e = absurd (true≢false (sym e))
taken_is answer.TooManyValues e = absurd (true≢false (sym e))
taken_is answer.NoTime e = absurd (true≢false (sym e))
taken_is answer.Late e = absurd (true≢false (sym e))
taken_is answer.NoRoom e = absurd (true≢false (sym e))
taken_is answer.Ended e = absurd (true≢false (sym e))
taken_is answer.BlockLength e = absurd (true≢false (sym e))
taken_is answer.LeftOver e = absurd (true≢false (sym e))
taken_is answer.BadToken e = absurd (true≢false (sym e))
taken_is answer.BadGrammar e = absurd (true≢false (sym e))
taken_is answer.BadNames e = absurd (true≢false (sym e))
taken_is answer.BadRates e = absurd (true≢false (sym e))
taken_is answer.TooLarge e = absurd (true≢false (sym e))
taken_is answer.UnknownVersion e = absurd (true≢false (sym e))
taken_is answer.BadText e = absurd (true≢false (sym e))
taken_is answer.NoText e = absurd (true≢false (sym e))
taken_is answer.NothingToUndo e = absurd (true≢false (sym e))

-- ---- a score

module _ (bits : List Bool) (old : List ℕ) {r : ScoreRead} {b : Bool} (e : r ≡ score_read_of (score_of bits)) (f : b ≡ is_taken r.answer) where
  answer-is : is_taken (score_of bits).answer ≡ b
  answer-is = sym (f ∙ ap (λ (x : ScoreRead). is_taken x.answer) e)

  pub score-refused : b ≡ false → DecodesTo (score_of bits) old old (record { answer = r.answer; line = r.line; count = 0 })
  score-refused g = subst (λ (x : ScoreRead). DecodesTo (score_of bits) old old (record { answer = x.answer; line = x.line; count = 0 })) (sym e) (left-refused (score_of bits) old (answer-is ∙ g))

  module _ (g : b ≡ true) {c : Cursor} (k : c ≡ first_of bits) where
    is-taken : (score_of bits).answer ≡ Taken
    is-taken = taken_is (score_of bits).answer (answer-is ∙ g)

    lines_are : length (score_of bits).lines ≡ c.left
    lines_are = ahead-left bits (first_of bits) (score_of bits).lines (ahead-first bits (score_of bits).lines (answered bits is-taken)) ∙ sym (ap (λ (x : Cursor). x.left) k)

    pub score-short : length old / slot_words < c.left → DecodesTo (score_of bits) old old (record { answer = NoRoom; line = 0; count = 0 })
    score-short h = left-short (score_of bits) old (answer-is ∙ g) (omega (arith, lines_are))

    pub score-taken : (new : List ℕ) → c.left ≤ length old / slot_words → new ≡ laid (area_words (walked bits c.left c)) old → DecodesTo (score_of bits) old new (record { answer = Taken; line = 0; count = c.left })
    score-taken new h n =
        subst (λ (j : ℕ). DecodesTo (score_of bits) old new (record { answer = Taken; line = 0; count = j })) lines_are
        (left-taken (score_of bits) old new (answer-is ∙ g) (omega (arith, lines_are))
        (n ∙ ap (λ (ls : List Line). laid (area_words ls) old) (ap (λ (x : Cursor). walked bits x.left x) k ∙ walk-all bits is-taken)))

-- ---- an access unit

module _ (u : LineRead) (old : List ℕ) {r : LineRead} {b : Bool} (e : r ≡ u) (f : b ≡ is_taken r.answer) where
  unit-is : is_taken (carried u).answer ≡ b
  unfolding carried
  unit-is = sym (f ∙ ap (λ (x : LineRead). is_taken x.answer) e)

  pub unit-refused : b ≡ false → DecodesTo (carried u) old old (record { answer = r.answer; line = 0; count = 0 })
  unfolding carried
  unit-refused g = subst (λ (x : LineRead). DecodesTo (carried u) old old (record { answer = x.answer; line = 0; count = 0 })) (sym e) (left-refused (carried u) old (unit-is ∙ g))

  pub unit-short : b ≡ true → length old < slot_words → DecodesTo (carried u) old old (record { answer = NoRoom; line = 0; count = 0 })
  unfolding carried
  unit-short g h = left-short (carried u) old (unit-is ∙ g) h

  pub unit-taken : (slot new : List ℕ) → b ≡ true → slot_words ≤ length old → slot ≡ line_slot r.line → SlotPut old 0 slot new → DecodesTo (carried u) old new (record { answer = Taken; line = 0; count = 1 })
  unfolding carried area_words laid
  unit-taken slot new g h k p =
      let w : slot ≡ area_words (u.line ∷ []) = k ∙ ap (λ (x : LineRead). line_slot x.line) e ∙ sym (append-nil (line_slot u.line)) in
      left-taken (carried u) old new (unit-is ∙ g) h (p.stands ∙ ap (λ (n : ℕ). slot ++ drop n old) (sym p.long) ∙ ap (λ (x : List ℕ). x ++ drop (length x) old) w)
