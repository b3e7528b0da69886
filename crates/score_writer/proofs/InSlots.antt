-- Lines in slots, and slots in an area. Assumes nothing.
use Prim.Native.Nat.{ℕ, zero, suc, ◌+◌, ◌-◌, ◌*◌, ◌/◌, ◌^◌, ◌<◌, ◌≤◌}
use mathlib.Core.Path.{◌≡◌, refl, sym, ap, ◌∙◌, subst}
use mathlib.Core.Bool.{true, false, ◌&&◌, true≢false}
use mathlib.Core.List.{List, [], ◌∷◌, ◌++◌, append_assoc, map}
use native.Mathlib.Nat.{zero-add}
use native.Mathlib.Omega.{arith}
use borrow.Author.Tests.{lt-ltb, ltb-true, eqb-true, eq-eqb, ne_eqb}
use borrow.Table.Steps.{cases}
use lib.Dec.{T, eqb, eqb→eq, ltb}
use lib.ListN.{length, get_or, take, drop, replicate, length-append, length-replicate, length-drop, drop_of_length-le}
use lib.Seq.{take_at, drop_at, drop-drop, get_or-drop, length-take-le, take-add}
use lib.Ieee.{binary32, fits}
use lib.Ieee.Fits.{and_l, and_r, and_i}
use Rattle.base_laws.proofs.Choice.{cond-true, cond-false, both_true}
use Rattle.base_answer.specs.Numbers.{number_of, is_taken}
use Rattle.base_answer.specs.declared.Answer.{Answer}
use Rattle.base_answer.specs.declared.Answer.TheVariants as answer
use Rattle.base_bitstream.proofs.Window.{below-take}
use Rattle.base_formats.specs.Format.{all}
use Rattle.score_line.specs.LineFormat.{slot_words, valid}
use Rattle.score_line.specs.Reading.{line_in_words, refused_line, whole_run, keypad_line}
use Rattle.score_line.specs.declared.Line.{Line}
use Rattle.score_line.specs.declared.LineRead.{LineRead}
use Rattle.score_line_writer.specs.Writing.{line_fields, line_words, to_slot, line_fault, line_slot}
use Rattle.score_line_writer.specs.Claims.{taken, as_read}
use Rattle.score_line_writer.specs.Stored.{stored_when, stored_event, stored, normalized}
use Rattle.base_formats.proofs.InWords.{length-words}
use Rattle.score_line_writer.proofs.Proved.{values-long, line-few, words-here, words-back-here, words-read-back, words-written-back}
use Rattle.score_line_writer.proofs.AnyLine.{every-line-read}
use Rattle.score_decoder.specs.Area.{area_words}
use Rattle.score_decoder.proofs.Slots.{taken_is}
use Rattle.score_writer.specs.Bytes.{all_valid}
use Rattle.score_writer.specs.Slots.{all_zero, slot_line, slot_read, area_fault, area_lines}
use Rattle.score_writer.specs.Claims.{SlotsAsKeypad, KeypadAsSlot, all_stored, lines_fault}

-- ---- the number 0

pub zero-taken : (a : Answer) → number_of a ≡ 0 → is_taken a ≡ true
zero-taken a e = eq-eqb (number_of a) 0 e

pub zero_is : (a : Answer) → number_of a ≡ 0 → a ≡ answer.Taken
zero_is a e = taken_is a (zero-taken a e)

pub as-taken : (r : LineRead) → r.answer ≡ answer.Taken → r ≡ taken r.line r.next
as-taken r e i = record { answer = e i; line = r.line; next = r.next }

-- ---- the length of a slot

stored-long : (l : Line) → T (stored l) → length l.values ≡ 8
stored-long l h =
    let v = eqb (length l.values) 8 && all (fits binary32) l.values in
    eqb→eq (length l.values) 8 (and_l (eqb (length l.values) 8) (all (fits binary32) l.values) (and_r (stored_event l.event) v (and_r (stored_when l.when) (stored_event l.event && v) h)))

pub slot-split : (l : Line) → line_slot l ≡ line_words l ++ replicate (slot_words - length (line_words l)) 0
unfolding line_slot to_slot
slot-split l = refl

pub slot-long : (l : Line) → length l.values ≡ 8 → length (line_slot l) ≡ slot_words
unfolding line_words
slot-long l h =
    let w = line_words l in
    let f : length w ≤ slot_words = omega (arith, line-few l h, length-words (line_fields l)) in
    ap length (slot-split l) ∙ simp (length-append, length-replicate) (omega arith)

-- ---- zeros

zeros-all : (n : ℕ) → all_zero (replicate n 0) ≡ true
zeros-all zero = refl
zeros-all (suc n) = zeros-all n

all-zeros : (ws : List ℕ) → all_zero ws ≡ true → ws ≡ replicate (length ws) 0
all-zeros [] e = refl
all-zeros (w ∷ ws) e = let b = both_true (eqb w 0) (all_zero ws) e in cc (eqb-true w 0 b.0, all-zeros ws b.1)

-- ---- one slot

-- words that begin with a line, then zeros
zeros-behind : (ws : List ℕ) (n : ℕ) (l : Line) → line_in_words (ws ++ replicate n 0) 0 ≡ taken l (length ws) → slot_line (ws ++ replicate n 0) ≡ taken l (length ws)
unfolding slot_line
zeros-behind ws n l r = cc (drop_at ws (replicate n 0) (length ws) refl, zeros-all n)

slot-here : (l : Line) (n : ℕ) → T (valid l) → slot_line (line_words l ++ replicate n 0) ≡ taken l (length (line_words l))
slot-here l n h = zeros-behind (line_words l) n l (words-here (line_words l ++ replicate n 0) 0 l (replicate n 0) h refl ∙ ap (taken l) (zero-add (length (line_words l))))

-- a valid line's slot is read as that line
slot-read : (l : Line) → T (valid l) → slot_line (line_slot l) ≡ taken l (length (line_words l))
slot-read l h = ap slot_line (slot-split l) ∙ slot-here l (slot_words - length (line_words l)) h

-- any line's slot as the line is meant, or with its fault
slot-any : (l : Line) → T (stored l) → slot_line (line_slot l) ≡ as_read l (length (line_words l))
unfolding slot_line refused_line
slot-any l h =
    let n = slot_words - length (line_words l) in
    let r = (every-line-read l h).in_words (replicate n 0) in
    ap slot_line (slot-split l)
    ∙ cases (is_taken (line_fault l)) (λ e. zeros-behind (line_words l) n (normalized l) (r ∙ cond-true _ _ e) ∙ sym (cond-true _ _ e)) (λ e. let s = r ∙ cond-false _ _ e in cc)

-- a slot that was taken: a line, then zeros
pub record SlotBack (slot : List ℕ) : Type 0 where
  pub first : is_taken (line_in_words slot 0).answer ≡ true
  pub zeros : all_zero (drop (line_in_words slot 0).next slot) ≡ true
  pub is : slot_line slot ≡ line_in_words slot 0

slot-back : (slot : List ℕ) → is_taken (slot_line slot).answer ≡ true → SlotBack slot
unfolding slot_line refused_line
slot-back slot e =
    cases (is_taken (line_in_words slot 0).answer)
    (λ f. cases (all_zero (drop (line_in_words slot 0).next slot)) (λ g. record { first = f; zeros = g; is = cc }) (λ g. absurd (true≢false (cc))))
    (λ f. absurd (true≢false (cc)))

-- its line, which is valid, and the numbers before the zeros
record Numbers (slot : List ℕ) : Type 0 where
  is-valid : T (valid (slot_line slot).line)
  past : (slot_line slot).next ≡ length (line_words (slot_line slot).line)
  words : slot ≡ line_words (slot_line slot).line ++ drop (slot_line slot).next slot
  zeros : all_zero (drop (slot_line slot).next slot) ≡ true

slot-numbers : (slot : List ℕ) → ((i : ℕ) → get_or slot i 0 < 2 ^ 32) → is_taken (slot_line slot).answer ≡ true → Numbers slot
slot-numbers slot h e =
    let b = slot-back slot e in
    let r = line_in_words slot 0 in
    let k = words-back-here slot 0 r.line r.next h (as-taken r (taken_is r.answer b.first)) in
    record {
      is-valid = subst (λ (x : LineRead). T (valid x.line)) (sym b.is) k.0;
      past = cc (zero-add (length (line_words r.line)));
      words = cc;
      zeros = cc;
    }

-- a slot that was taken is the slot of its line
slot_whole : (slot : List ℕ) → length slot ≡ slot_words → ((i : ℕ) → get_or slot i 0 < 2 ^ 32) → is_taken (slot_line slot).answer ≡ true
    → T (valid (slot_line slot).line) × (line_slot (slot_line slot).line ≡ slot)
slot_whole slot n h e =
    let k = slot-numbers slot h e in
    let w = line_words (slot_line slot).line in
    let d = drop (slot_line slot).next slot in
    (k.is-valid, cc (slot-split (slot_line slot).line, k.words, all-zeros d k.zeros, length-drop (slot_line slot).next slot, k.past))

-- ---- as the keypad reads

pub slots-as-keypad : SlotsAsKeypad
slots-as-keypad slot h = record { taken = yes; refused = no }
  where
    yes : number_of (slot_line slot).answer ≡ 0 → (keypad_line (take (slot_line slot).next slot) ≡ slot_line slot) × (all_zero (drop (slot_line slot).next slot) ≡ true)
    yes e =
        let k = slot-numbers slot h (zero-taken (slot_line slot).answer e) in
        let w = line_words (slot_line slot).line in
        let t = take_at w (drop (slot_line slot).next slot) (slot_line slot).next (sym k.past) in
        (cc (k.words, k.past, words-read-back (slot_line slot).line k.is-valid, as-taken (slot_line slot) (zero_is (slot_line slot).answer e)), k.zeros)

    past : all_zero (drop (line_in_words slot 0).next slot) ≡ false → (line_in_words slot 0).next ≡ length slot → ⊥
    past z e = let n : length slot ≤ (line_in_words slot 0).next = omega arith in true≢false (cc (drop_of_length-le slot n))

    no : (number_of (slot_line slot).answer ≡ 0 → ⊥) → slot_line slot ≡ keypad_line slot
    no never =
        unfold slot_line keypad_line whole_run in (cases (is_taken (line_in_words slot 0).answer) (λ f. cases (all_zero (drop (line_in_words slot 0).next slot))
        (λ g. absurd (never (cc (eqb-true (number_of (line_in_words slot 0).answer) 0 f)))) (λ g. cc (ne_eqb (line_in_words slot 0).next (length slot) (past g)))) (λ f. cc))

pub keypad-as-slot : KeypadAsSlot
keypad-as-slot ws n h e =
    let r = keypad_line ws in
    let t : r ≡ taken r.line r.next = as-taken r (zero_is r.answer e) in
    let k = words-written-back ws r.line r.next h t in
    cc (slot-here r.line n k.0, words-read-back r.line k.0, k.1)

-- ---- slots of an area

-- the slot that stands there
slot-there : (area slot more : List ℕ) (i : ℕ) → length slot ≡ slot_words → drop (slot_words * i) area ≡ slot ++ more → slot_read area i ≡ slot_line slot
unfolding slot_read
slot-there area slot more i n e =
    let m : length area - slot_words * i ≡ length slot + length more = cc (length-drop (slot_words * i) area, length-append slot more) in
    cc (lt-ltb i (length area / slot_words) (omega arith), take_at slot more slot_words n)

drop-slot : (area slot more : List ℕ) (i : ℕ) → length slot ≡ slot_words → drop (slot_words * i) area ≡ slot ++ more → drop (slot_words * suc i) area ≡ more
drop-slot area slot more i n e =
    let k : slot_words * i + slot_words ≡ slot_words * suc i = omega arith in
    cc (drop-drop slot_words (slot_words * i) area, drop_at slot more slot_words n)

-- valid lines in an area, whatever lies behind them, are read from it
pub held-from : (ls : List Line) (area rest : List ℕ) (i : ℕ) → T (all_valid ls) → drop (slot_words * i) area ≡ area_words ls ++ rest
    → ((area_fault area (length ls) i).answer ≡ answer.Taken) × (area_lines area (length ls) i ≡ ls)
unfolding all_valid area_words area_fault area_lines
held-from [] area rest i h d = (refl, refl)
held-from (l ∷ ls) area rest i h d =
    let hl = and_l (valid l) (all_valid ls) h in
    let e = d ∙ append_assoc (line_slot l) (area_words ls) rest in
    let n = slot-long l (values-long l hl) in
    let r = slot-there area (line_slot l) (area_words ls ++ rest) i n e ∙ slot-read l hl in
    let k = held-from ls area rest (suc i) (and_r (valid l) (all_valid ls) h) (drop-slot area (line_slot l) (area_words ls ++ rest) i n e) in
    (cc k.0, cc k.1)

-- the first slot of an area that begins with a valid line's
pub first_slot : (l : Line) (area rest : List ℕ) → T (valid l) → area ≡ line_slot l ++ rest → slot_read area 0 ≡ taken l (length (line_words l))
first_slot l area rest h e = slot-there area (line_slot l) rest 0 (slot-long l (values-long l h)) e ∙ slot-read l h

-- any lines: the first fault of the area is that of the lines, and where there is none they are read as they are meant
pub stored-from : (ls : List Line) (area rest : List ℕ) (i : ℕ) → T (all_stored ls) → drop (slot_words * i) area ≡ area_words ls ++ rest
    → (area_fault area (length ls) i ≡ lines_fault ls i) × (is_taken (lines_fault ls i).answer ≡ true → area_lines area (length ls) i ≡ map normalized ls)
unfolding area_words area_fault area_lines lines_fault refused_line
stored-from [] area rest i h d = (refl, λ e. refl)
stored-from (l ∷ ls) area rest i h d =
    let hl = and_l (stored l) (all_stored ls) h in
    let e = d ∙ append_assoc (line_slot l) (area_words ls) rest in
    let n = slot-long l (stored-long l hl) in
    let r = slot-there area (line_slot l) (area_words ls ++ rest) i n e ∙ slot-any l hl in
    let k = stored-from ls area rest (suc i) (and_r (stored l) (all_stored ls) h) (drop-slot area (line_slot l) (area_words ls ++ rest) i n e) in
    cases (is_taken (line_fault l))
    (λ f. let s : slot_read area i ≡ taken (normalized l)
    (length (line_words l)) = r ∙ cond-true _ _ f in (cc k.0, λ t. let g : is_taken (lines_fault ls (suc i)).answer ≡ true = cc in cc (k.1 g)))
    (λ f. let s : (slot_read area i).answer ≡ line_fault l = ap (λ (x : LineRead). x.answer) (r ∙ cond-false _ _ f) in (cc, λ t. absurd (true≢false (cc))))

-- ---- an area whose slots were all taken

-- a slot that was taken is whole
pub slot-inside : (area : List ℕ) (i : ℕ) → is_taken (slot_read area i).answer ≡ true → (slot_words * i + slot_words ≤ length area) × (slot_read area i ≡ slot_line (take slot_words (drop (slot_words * i) area)))
unfolding slot_read refused_line
slot-inside area i e = cases (ltb i (length area / slot_words)) (λ f. (omega (arith, ltb-true i (length area / slot_words) f), cc)) (λ f. absurd (true≢false (cc)))

-- the fault of the first slot, and of the others
pub fault-back : (area : List ℕ) (n i : ℕ) → (area_fault area (suc n) i).answer ≡ answer.Taken → (is_taken (slot_read area i).answer ≡ true) × ((area_fault area n (suc i)).answer ≡ answer.Taken)
unfolding area_fault
fault-back area n i e = cases (is_taken (slot_read area i).answer) (λ f. (f, cc)) (λ f. absurd (true≢false (cc)))

-- the lines of such slots are valid, and the slots are theirs
pub slot_of : (area : List ℕ) (i : ℕ) → ((j : ℕ) → get_or area j 0 < 2 ^ 32) → is_taken (slot_read area i).answer ≡ true
    → T (valid (slot_read area i).line) × (line_slot (slot_read area i).line ≡ take slot_words (drop (slot_words * i) area))
slot_of area i h e =
    let w = slot-inside area i e in
    let slot = take slot_words (drop (slot_words * i) area) in
    let m : length slot ≡ slot_words = length-take-le slot_words (drop (slot_words * i) area) (omega (arith, length-drop (slot_words * i) area, w.0)) in
    let s = slot_whole slot m (below-take (2 ^ 32) slot_words (drop (slot_words * i) area) (omega arith) (λ j. rw (get_or-drop (slot_words * i) area j 0) (h (slot_words * i + j))))
    (sym (ap (λ (x : LineRead). is_taken x.answer) w.1) ∙ e) in
    subst (λ (x : LineRead). T (valid x.line) × (line_slot x.line ≡ slot)) (sym w.1) s

pub slots-back : (area : List ℕ) (n i : ℕ) → ((j : ℕ) → get_or area j 0 < 2 ^ 32) → (area_fault area n i).answer ≡ answer.Taken
    → T (all_valid (area_lines area n i)) × (area_words (area_lines area n i) ≡ take (slot_words * n) (drop (slot_words * i) area))
unfolding area_lines all_valid area_words
slots-back area zero i h e = (tt, refl)
slots-back area (suc n) i h e =
    let f = fault-back area n i e in
    let s = slot_of area i h f.0 in
    let k = slots-back area n (suc i) h f.1 in
    let a : slot_words * suc n ≡ slot_words + slot_words * n = omega arith in
    let c : slot_words * i + slot_words ≡ slot_words * suc i = omega arith in
    let d = drop (slot_words * i) area in
    (and_i (valid (slot_read area i).line) (all_valid (area_lines area n (suc i))) s.0 k.0, cc (s.1, k.1, take-add slot_words (slot_words * n) d, drop-drop slot_words (slot_words * i) area))
