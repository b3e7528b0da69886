-- Reading and writing undo each other through the public calls. Assumes nothing.
use Prim.Native.Nat.{ℕ, suc, ◌+◌, ◌-◌, ◌*◌, ◌≤◌}
use mathlib.Core.Path.{◌≡◌, refl, sym, ap, ap₂, ◌∙◌, subst}
use mathlib.Core.Bool.{Bool, true, false, cond, true≢false}
use mathlib.Core.List.{List, [], ◌∷◌, ◌++◌, append-nil, map}
use native.Mathlib.Omega.{arith}
use borrow.Author.Tests.{le-leb, leb-true, eqb-true}
use borrow.Table.Steps.{cases}
use lib.Dec.{T, leb}
use lib.ListN.{length, take, drop, replicate, length-append, take-append-drop}
use lib.Seq.{take_at}
use lib.Ieee.Bits.{is_true}
use lib.Ieee.Fits.{and_l, and_r}
use Rattle.base_laws.proofs.Choice.{cond-true, cond-false}
use Rattle.base_answer.specs.Numbers.{number_of, is_taken}
use Rattle.base_answer.specs.declared.Answer.{Answer}
use Rattle.base_answer.specs.declared.Answer.TheVariants as answer
use Rattle.base_bitstream.specs.Bits.{bits_of, field}
use Rattle.base_bitstream.specs.Fields.{farthest, over}
use Rattle.base_bitstream.specs.Filling.{filled_up, bytes_of}
use Rattle.base_bitstream.proofs.Fields.{drop-over, bits_of-inj}
use Rattle.score_line.specs.LineFormat.{slot_words, valid}
use Rattle.score_line.specs.Reading.{line_at, keypad_line, line_read}
use Rattle.score_line.specs.declared.Line.{Line}
use Rattle.score_line.specs.declared.LineRead.{LineRead}
use Rattle.score_line_writer.specs.Writing.{line_before, line_bits, line_fault, line_slot, bits_fit}
use Rattle.score_line_writer.specs.Claims.{taken, FaultNumber, no-fault, out_of_range, too-many-values}
use Rattle.score_line_writer.specs.Stored.{stored, normalized}
use Rattle.score_line_writer.proofs.Writes.{fit-back}
use Rattle.score_line_writer.proofs.Proved.{values-long, before-append, line-here, line-back-here, words-read-back, words-written-back}
use Rattle.score_line_writer.proofs.AnyLine.{every-normalized, fault-numbers}
use Rattle.score_reader.specs.Score as score
use Rattle.score_reader.specs.Score.{Score, score_of, unit_of}
use Rattle.score_decoder.specs.Area.{area_words, laid, decoded_of, area_after, carried, DecodesTo}
use Rattle.score_decoder.specs.declared.Decoded.{Decoded}
use Rattle.score_decoder.proofs.Slots.{taken_is}
use Rattle.score_writer.specs.Writing.{lines_bits, score_bits, score_bytes, unit_bits, unit_bytes, most_lines}
use Rattle.score_writer.specs.Bytes.{all_valid}
use Rattle.score_writer.specs.Slots.{slot_read, area_fault, area_lines}
use Rattle.score_writer.specs.Written.{refusal, told, left, score_written, score_left, unit_written, unit_left, slot_written, slot_left, ScoreDone, UnitDone, SlotDone}
use Rattle.score_writer.specs.Claims.{Took, LineReadBack, LineWrittenBack, KeypadReadBack, KeypadWrittenBack, SlotsBack, ScoreReadBack, BytesBack, ScoreWrittenBack, UnitReadBack, UnitWrittenBack, SlotReadBack, SlotWrittenBack, all_stored, lines_fault, lines_written, lines_left, WriterNumber, LinesWritten}
use Rattle.score_writer.specs.Claims as claims
use Rattle.score_writer.specs.declared.WriteResult.{WriteResult}
use Rattle.score_writer.proofs.Area.{lines-count}
use Rattle.score_writer.proofs.Lays.{line-laid}
use Rattle.score_writer.proofs.Bytes.{score-bytes-read, score-bytes-written, unit-bytes-read, unit-bytes-written, unit-whole}
use Rattle.score_writer.proofs.InSlots.{zero_is, as-taken, slot-split, slot-long, held-from, first_slot, stored-from, slot_of, slots-back}

-- ---- lines

took : {r : LineRead} {l : Line} {p : ℕ} → r ≡ taken l p → Took r l p
took e = record { number = cc; line = cc; next = cc }

pub line-read-back : LineReadBack
line-read-back old new at p l h w f =
    let b = line_bits l in
    let k = fit-back (length (bits_of old)) at (length b) (is_true (bits_fit (length (bits_of old)) at (length b)) f) in
    let d = line-laid (bits_of old) (bits_of new) at p l k.0 k.1 w in
    let rest = drop (at + length b) (bits_of old) in
    let e : drop at (bits_of new) ≡ line_before l rest = cc (d.stands, drop-over (bits_of old) at b k.1, before-append l rest) in
    took (cc ((line-here (bits_of new) at l rest h k.0 e).0, d.past))

pub line-written-back : LineWrittenBack
line-written-back s t at p hs ht e near w =
    let r = line_at (bits_of s) at in
    let b = line_bits r.line in
    let h = line-back-here (bits_of s) at r.line r.next (as-taken r (zero_is r.answer e)) in
    let n : at + length b ≤ farthest = omega (arith, h.past) in
    let m : at + length b ≤ length (bits_of s) = omega (arith, h.past, h.within) in
    let d = line-laid (bits_of s) (bits_of t) at p r.line n m w in
    let same : over (bits_of s) at b ≡ bits_of s = cc (h.past, h.here, before-append r.line (drop r.next (bits_of s)), take-append-drop at (bits_of s)) in
    (bits_of-inj t s ht hs (d.stands ∙ same), cc (d.past, h.past))

pub keypad-read-back : KeypadReadBack
keypad-read-back l h = took (words-read-back l h)

pub keypad-written-back : KeypadWrittenBack
keypad-written-back ws h e =
    let r = keypad_line ws in
    let k = words-written-back ws r.line r.next h (as-taken r (zero_is r.answer e)) in
    slot-split r.line ∙ ap (λ (x : List ℕ). x ++ replicate (slot_words - length x) 0) k.1

-- ---- bytes that were told

pub bytes_back : (b out new : List ℕ) (w : WriteResult) → length b ≤ length out → w ≡ told b (length out) → new ≡ left b out → BytesBack b out new w
bytes_back b out new w h e f = let t = le-leb (length b) (length out) h in let k = e ∙ cond-true _ _ t in record { number = cc; line = cc; bytes = cc; are = cc }

-- no answer of the number 0 refuses
never : {X : Type 0} (a : Answer) → number_of a ≡ 0 → is_taken a ≡ false → X
never a e f = absurd (true≢false (cc))

-- what was told as written stands at the start
pub told-zero : (b out new : List ℕ) (w : WriteResult) → w ≡ told b (length out) → new ≡ left b out → number_of w.answer ≡ 0 → take w.bytes new ≡ b
told-zero b out new w e f z = cases (leb (length b) (length out)) (λ k. cc (e ∙ cond-true _ _ k, take_at b (drop (length b) out) (length b) refl))
    (λ k. never w.answer z (cc (e ∙ cond-false _ _ k)))

-- ---- a score that was written

record WroteScore (area : List ℕ) (n : ℕ) (out new : List ℕ) (w : WriteResult) : Type 0 where
  fault : (area_fault area n 0).answer ≡ answer.Taken
  few : n ≤ most_lines
  bytes : take w.bytes new ≡ score_bytes (area_lines area n 0)

wrote-score : (area : List ℕ) (n : ℕ) (out new : List ℕ) (w : WriteResult) → ScoreDone area n out new w → number_of w.answer ≡ 0 → WroteScore area n out new w
unfolding score_written score_left
wrote-score area n out new w d z =
    let f = (area_fault area n 0).answer in
    cases (is_taken f)
    (λ e. cases (leb n most_lines)
    (λ k.
    let b = told-zero (score_bytes (area_lines area n 0)) out new w (cc d.answers) (cc d.leaves) z in
    record { fault = taken_is f e; few = leb-true n most_lines k; bytes = b })
    (λ k. never w.answer z (cc (d.answers ∙ cond-true _ _ e ∙ cond-false _ _ k)))) (λ e. never w.answer z (cc (d.answers ∙ cond-false _ _ e)))

-- and one that can be
can_write : (area : List ℕ) (n : ℕ) (out new : List ℕ) (w : WriteResult) (s : List ℕ) → ScoreDone area n out new w → (area_fault area n 0).answer ≡ answer.Taken → n ≤ most_lines
    → score_bytes (area_lines area n 0) ≡ s → length s ≤ length out → BytesBack s out new w
unfolding score_written score_left
can_write area n out new w s d f few e h = let b = le-leb n most_lines few in bytes_back s out new w h (cc d.answers) (cc d.leaves)

-- ---- lines that are decoded into an area

pub record Decodes (ls : List Line) (old new : List ℕ) (r : Decoded) : Type 0 where
  pub is : r ≡ record { answer = answer.Taken; line = 0; count = length ls }
  pub words : new ≡ area_words ls ++ drop (length (area_words ls)) old

pub decodes : (s : Score) (ls : List Line) (old new : List ℕ) (r : Decoded) → s.answer ≡ answer.Taken → s.lines ≡ ls → slot_words * length ls ≤ length old → DecodesTo s old new r → Decodes ls old new r
unfolding decoded_of area_after laid
decodes s ls old new r a e h d = let k = le-leb (slot_words * length ls) (length old) h in record { is = cc d.told; words = cc d.area }

-- what was decoded was read, and had room
pub decoded-zero : (s : Score) (old new : List ℕ) (r : Decoded) → DecodesTo s old new r → number_of r.answer ≡ 0 → (s.answer ≡ answer.Taken) × (slot_words * length s.lines ≤ length old)
unfolding decoded_of
decoded-zero s old new r d z =
    cases (is_taken s.answer)
    (λ e. cases (leb (slot_words * length s.lines) (length old)) (λ f. (taken_is s.answer e, leb-true (slot_words * length s.lines) (length old) f))
    (λ f. never r.answer z (cc (d.told ∙ cond-true _ _ e ∙ cond-false _ _ f))))
    (λ e. never r.answer z (cc (d.told ∙ cond-false _ _ e)))

-- lines whose words are the first n slots of an area
pub slots-decoded : (area : List ℕ) (n : ℕ) (ls : List Line) (into new : List ℕ) (d : Decoded) → length ls ≡ n → area_words ls ≡ take (slot_words * n) area → length (take (slot_words * n) area) ≡ slot_words * n
    → Decodes ls into new d → SlotsBack area n into new d
slots-decoded area n ls into new d c e m k = record { number = cc k.is; line = cc k.is; count = cc k.is; words = cc k.words }

pub words_long : (ls : List Line) → T (all_valid ls) → length (area_words ls) ≡ slot_words * length ls
unfolding area_words all_valid
words_long [] h = refl
words_long (l ∷ ls) h =
    let s = slot-long l (values-long l (and_l (valid l) (all_valid ls) h)) in
    omega (arith, length-append (line_slot l) (area_words ls), words_long ls (and_r (valid l) (all_valid ls) h))

-- ---- scores

pub score-read-back : ScoreReadBack
score-read-back area out bytes into new n w d h done z dec room =
    let ls = area_lines area n 0 in
    let k = wrote-score area n out bytes w done z in
    let b = slots-back area n 0 h k.fault in
    let c : length ls ≡ n = lines-count area n 0 in
    let s : score_of (bits_of (take w.bytes bytes)) ≡ score.taken ls = ap (λ (x : List ℕ). score_of (bits_of x)) k.bytes ∙ score-bytes-read ls b.0 (omega (arith, k.few)) in
    slots-decoded area n ls into new d c b.1 (sym (ap length b.1) ∙ words_long ls b.0 ∙ ap (λ (j : ℕ). slot_words * j) c)
    (decodes (score_of (bits_of (take w.bytes bytes))) ls into new d (ap (λ (x : Score). x.answer) s) (ap (λ (x : Score). x.lines) s) (omega arith) dec)

pub score-written-back : ScoreWrittenBack
score-written-back s area words out new d w hs dec z done room =
    let ls = (score_of (bits_of s)).lines in
    let a = decoded-zero (score_of (bits_of s)) area words d dec z in
    let b = score-bytes-written s hs a.0 in
    let k = decodes (score_of (bits_of s)) ls area words d a.0 refl a.1 dec in
    let c : d.count ≡ length ls = cc k.is in
    let f = held-from ls words (drop (length (area_words ls)) area) 0 b.valid-lines k.words in
    can_write words (length ls) out new w s (subst (λ (j : ℕ). ScoreDone words j out new w) c done) f.0 b.count (ap score_bytes f.1 ∙ b.bytes-are) room

-- ---- units

record WroteUnit (l : Line) (out new : List ℕ) (w : WriteResult) : Type 0 where
  fault : number_of (line_fault l) ≡ 0
  bytes : take w.bytes new ≡ unit_bytes l

wrote-unit : (l : Line) (out new : List ℕ) (w : WriteResult) → UnitDone l out new w → number_of w.answer ≡ 0 → WroteUnit l out new w
unfolding unit_written unit_left
wrote-unit l out new w d z =
    cases (is_taken (line_fault l))
    (λ e. record { fault = eqb-true (number_of (line_fault l)) 0 e; bytes = told-zero (unit_bytes l) out new w (cc d.answers) (cc d.leaves) z })
    (λ e. never w.answer z (cc (d.answers ∙ cond-false _ _ e)))

meant-unit : (l : Line) → line_bits (normalized l) ≡ line_bits l → unit_bytes (normalized l) ≡ unit_bytes l
unfolding unit_bytes unit_bits
meant-unit l e = ap (λ (b : List Bool). bytes_of (filled_up (field 2 0 ++ b))) e

pub unit-read-back : UnitReadBack
unfolding line_read
unit-read-back l out bytes w h done z =
    let k = wrote-unit l out bytes w done z in
    let m = every-normalized l h k.fault in
    took (ap (λ (x : List ℕ). unit_of (bits_of x)) (k.bytes ∙ sym (meant-unit l m.same_bits)) ∙ unit-whole (normalized l) m.is-valid ∙ ap (λ (b : List Bool). taken (normalized l) (2 + length b)) m.same_bits)

-- a valid line has no fault
valid-fault : (l : Line) → T (valid l) → line_fault l ≡ answer.Taken
unfolding line_fault
valid-fault l h = ap (λ (x : LineRead). x.answer) (words-read-back l h)

can-unit : (l : Line) (out new : List ℕ) (w : WriteResult) (s : List ℕ) → T (valid l) → UnitDone l out new w → unit_bytes l ≡ s → length s ≤ length out → BytesBack s out new w
unfolding unit_written unit_left
can-unit l out new w s h d e room = let a = valid-fault l h in bytes_back s out new w room (cc d.answers) (cc d.leaves)

pub unit-written-back : UnitWrittenBack
unit-written-back s out new w hs z done room =
    let b = unit-bytes-written s hs (zero_is (unit_of (bits_of s)).answer z) in
    can-unit (unit_of (bits_of s)).line out new w s b.0 done b.1 room

-- a slot that was written
slot-unit : (area out new : List ℕ) (w : WriteResult) → SlotDone area out new w → number_of w.answer ≡ 0 → (is_taken (slot_read area 0).answer ≡ true) × UnitDone (slot_read area 0).line out new w
unfolding slot_written slot_left
slot-unit area out new w d z =
    cases (is_taken (slot_read area 0).answer) (λ e. (e, record { answers = cc d.answers; leaves = cc d.leaves }))
    (λ e. never w.answer z (cc (d.answers ∙ cond-false _ _ e)))

pub slot-read-back : SlotReadBack
unfolding carried area_words
slot-read-back area out bytes into new w d h done z dec room =
    let u = slot-unit area out bytes w done z in
    let l = (slot_read area 0).line in
    let k = wrote-unit l out bytes w u.1 z in
    let s = slot_of area 0 h u.0 in
    let r = unit-bytes-read l s.0 in
    let e : unit_of (bits_of (take w.bytes bytes)) ≡ unit_of (bits_of (unit_bytes l)) = ap (λ (x : List ℕ). unit_of (bits_of x)) k.bytes in
    let m : area_words (l ∷ []) ≡ take slot_words area = append-nil (line_slot l) ∙ s.1 in
    slots-decoded area 1 (l ∷ []) into new d refl m (sym (ap length s.1) ∙ slot-long l (values-long l s.0))
    (decodes (carried (unit_of (bits_of (take w.bytes bytes)))) (l ∷ []) into new d (ap (λ (x : LineRead). x.answer) e ∙ r.answer) (ap (λ (x : LineRead). x.line ∷ []) e ∙ ap (λ (x : Line). x ∷ []) r.line) room dec)

pub slot-written-back : SlotWrittenBack
unfolding carried area_words slot_written slot_left
slot-written-back s area words out new d w hs dec z done room =
    let r = unit_of (bits_of s) in
    let a = decoded-zero (carried r) area words d dec z in
    let b = unit-bytes-written s hs a.0 in
    let k = decodes (carried r) (r.line ∷ []) area words d a.0 refl a.1 dec in
    let f = first_slot r.line words (drop (length (area_words (r.line ∷ []))) area) b.0 (k.words ∙ ap (λ (x : List ℕ). x ++ drop (length (area_words (r.line ∷ []))) area) (append-nil (line_slot r.line))) in
    let t : is_taken (slot_read words 0).answer ≡ true = ap (λ (x : LineRead). is_taken x.answer) f in
    can-unit r.line out new w s b.0
    (record { answers = cc done.answers; leaves = cc done.leaves }) b.1 room

-- ---- the answers for any lines

map-count : (ls : List Line) → length (map normalized ls) ≡ length ls
map-count [] = refl
map-count (l ∷ ls) = ap suc (map-count ls)

meant-bits : (ls : List Line) (i : ℕ) → T (all_stored ls) → is_taken (lines_fault ls i).answer ≡ true → lines_bits (map normalized ls) ≡ lines_bits ls
unfolding lines_bits lines_fault
meant-bits [] i h e = refl
meant-bits (l ∷ ls) i h e =
    cases (is_taken (line_fault l))
    (λ f.
    let m = every-normalized l (and_l (stored l) (all_stored ls) h) (eqb-true (number_of (line_fault l)) 0 f) in
    cc (m.same_bits, meant-bits ls (suc i) (and_r (stored l) (all_stored ls) h) (cc)))
    (λ f. absurd (true≢false (cc)))

meant-bytes : (ls : List Line) → T (all_stored ls) → is_taken (lines_fault ls 0).answer ≡ true → score_bytes (map normalized ls) ≡ score_bytes ls
unfolding score_bytes score_bits
meant-bytes ls h e = ap₂ (λ (n : ℕ) (b : List Bool). bytes_of (filled_up (field 20 n ++ b))) (map-count ls) (meant-bits ls 0 h e)

fault-written : (ls : List Line) (i : ℕ) → T (all_stored ls) → WriterNumber (number_of (lines_fault ls i).answer)
unfolding lines_fault
fault-written [] i h = claims.written
fault-written (l ∷ ls) i h = go (is_taken (line_fault l)) (fault-written ls (suc i) (and_r (stored l) (all_stored ls) h))
  where
    one : (n : ℕ) → FaultNumber n → WriterNumber n
    one n no-fault = claims.written
    one n out_of_range = claims.out_of_range
    one n too-many-values = claims.too-many-values

    go : (b : Bool) → WriterNumber (number_of (lines_fault ls (suc i)).answer) → WriterNumber (number_of (cond b (lines_fault ls (suc i)) (record { answer = line_fault l; line = i })).answer)
    go true k = k
    go false k = one (number_of (line_fault l)) (fault-numbers l (and_l (stored l) (all_stored ls) h))

writer-number : (ls : List Line) (room : ℕ) → T (all_stored ls) → WriterNumber (number_of (lines_written ls room).answer)
unfolding lines_written
writer-number ls room h = go (is_taken (lines_fault ls 0).answer) (leb (length ls) most_lines) (leb (length (score_bytes ls)) room)
  where
    go : (a b c : Bool) → WriterNumber (number_of (cond a (cond b (cond c (record { answer = answer.Taken; line = 0; bytes = length (score_bytes ls) }) (refusal answer.NoRoom 0)) (refusal answer.OutOfRange 0)) (refusal (lines_fault ls 0).answer (lines_fault ls 0).line)).answer)
    go true true true = claims.written
    go true true false = claims.too_short
    go true false c = claims.out_of_range
    go false b c = fault-written ls 0 h

pub lines-written : LinesWritten
unfolding score_written score_left lines_written lines_left
lines-written ls rest out new w h done =
    let area = area_words ls ++ rest in
    let k = stored-from ls area rest 0 h refl in
    let a : w ≡ lines_written ls (length out) = cases (is_taken (lines_fault ls 0).answer) (λ e. cc (done.answers, k.0, k.1 e, meant-bytes ls h e))
    (λ e. cc (done.answers, k.0)) in
    record {
      answers = a;
      leaves = cases (is_taken (lines_fault ls 0).answer) (λ e. cc (done.leaves, k.0, k.1 e, meant-bytes ls h e)) (λ e. cc (done.leaves, k.0));
      number = subst (λ (x : WriteResult). WriterNumber (number_of x.answer)) (sym a) (writer-number ls (length out) h);
    }
