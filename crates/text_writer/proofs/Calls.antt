-- Reading and writing text through the calls. Assumes nothing.
use Prim.Native.Nat.{ℕ, suc, ◌+◌, ◌*◌, ◌≤◌}
use mathlib.Core.Path.{◌≡◌, refl, sym, ap, ◌∙◌, subst}
use mathlib.Core.Bool.{Bool, true, false, cond, true≢false}
use mathlib.Core.List.{List, [], ◌∷◌, map}
use mathlib.Core.Option.{Option, none, some}
use native.Mathlib.Omega.{arith}
use borrow.Author.Tests.{le-leb, leb-true, eqb-true}
use lib.Dec.{T, leb}
use lib.ListN.{length, take, drop}
use lib.Ieee.{binary32, fits}
use lib.Ieee.Fits.{and_l, and_r, and_i}
use Rattle.base_laws.proofs.Choice.{cond-true}
use Rattle.base_answer.specs.Numbers.{number_of, is_taken}
use Rattle.base_answer.specs.declared.Answer.TheVariants as answer
use Rattle.text_numerals.specs.Numeral.{Numeral, whole_of, meaning}
use Rattle.base_formats.specs.Format.{all as all_of, Read, got, refused}
use Rattle.base_formats.specs.declared.Fault.{Fault}
use Rattle.base_formats.specs.declared.Fault.TheVariants as fault
use Rattle.score_line.specs.LineFormat.{slot_words, valid}
use Rattle.score_line.specs.Reading.{answer_of}
use Rattle.score_line.specs.declared.Line.{Line}
use Rattle.score_line_writer.specs.Stored.{stored}
use Rattle.score_reader.specs.Score as score
use Rattle.score_reader.specs.Score.{Score, Lines, line_then, taken}
use Rattle.text_format.specs.Content.{Content, line_content, judged_from, judgement}
use Rattle.text_format.specs.Form.{Behind, Form, instr, control, tempo, end, TextLine, text_bytes, ValidForm, ValidLines, content_by}
use Rattle.text_format.specs.Form as form
use Rattle.text_format.specs.inside.Reading.{text_of}
use Rattle.text_format.specs.Claims.{Encodes, Either, encodes, breaks}
use Rattle.text_format.proofs.Texts.{text-read, text-broken, every-text}
use Rattle.score_decoder.specs.Area.{area_words}
use Rattle.score_decoder.specs.declared.Decoded.{Decoded}
use Rattle.score_writer.specs.Writing.{score_bytes, most_lines}
use Rattle.score_writer.specs.Bytes.{all_valid}
use Rattle.score_writer.specs.Slots.{area_fault, area_lines}
use Rattle.score_writer.specs.Written.{refusal, told, left, score_written}
use Rattle.score_writer.specs.Claims.{all_stored}
use Rattle.score_writer.specs.declared.WriteResult as call
use Rattle.score_writer.proofs.Area.{lines-count}
use Rattle.score_writer.proofs.InSlots.{zero-taken, zero_is, held-from, slots-back}
use Rattle.score_writer.proofs.Calls.{told-zero, words_long, decodes, decoded-zero, slots-decoded}
use Rattle.text_line_writer.specs.LineText.{content_of, event_numbers, numbers_of, IsTextOf}
use Rattle.text_writer.specs.Writing.{Text, all, lacking, before, text_from, told_text, left_text, text_written, text_left, TextDone}
use Rattle.text_writer.specs.Claims.{Told, AllHaveText, no_lines, one_more, TextIs, EveryTextTold, RoomNumber, written, too_short, TextNumber, room, no_text, LikeScore, TextLikeScore, TextReadBack, TextSlotsBack, NeverRefused18, ReadHasText, WrittenAgain, TextReadAgain}
use Rattle.text_writer.specs.Claims as claims
use Rattle.text_line_writer.proofs.Numbers.{float_fits}
use Rattle.text_writer.proofs.Stored.{and-map, valid-stored}
use Rattle.text_writer.proofs.Back.{content-line, SmallNames, text-valid}
use Rattle.text_writer.proofs.Lines.{line-found, content-not, every-line-told}
use Rattle.text_writer.proofs.Again.{content-back}
use Rattle.text_writer.proofs.Passing.{all_same}

-- ---- lines and their texts

-- lines behind i others: they all have a text, or the first that has none
data ToldFrom (i : ℕ) (ls : List Line) : Text → Type 0 where
  whole : (ws : List TextLine) → AllHaveText ls ws → ToldFrom i ls (all ws)
  broken : (j k : ℕ) → i + j ≡ k → claims.FirstWithoutText ls j → ToldFrom i ls (lacking k)

told-from : (i : ℕ) (ls : List Line) → T (all_stored ls) → ToldFrom i ls (text_from i ls)
unfolding text_from
told-from i [] h = whole [] no_lines
told-from i (l ∷ ls) h = go (every-line-told l (and_l (stored l) (all_stored ls) h)) (told-from (suc i) ls (and_r (stored l) (all_stored ls) h))
  where
    go : {o : Option TextLine} {t : Text} → Told l o → ToldFrom (suc i) ls t → ToldFrom i (l ∷ ls) (before o i t)
    go (claims.content w s u n) (whole ws k) = whole (w ∷ ws) (one_more s k)
    go (claims.content w s u n) (broken j k e f) =
        broken (suc j) k (omega arith) (record {
          before = l ∷ f.before;
          texts = w ∷ f.texts;
          line = f.line;
          after = f.after;
          are = ap (λ (x : List Line). l ∷ x) f.are;
          number = ap suc f.number;
          content = one_more s f.content;
          unsaid = f.unsaid;
        })
    go (claims.unsaid u n) k = broken 0 i (omega arith) (record { before = []; texts = []; line = l; after = ls; are = refl; number = refl; content = no_lines; unsaid = u })

pub every-text-told : EveryTextTold
every-text-told ls h = go (told-from 0 ls h)
  where
    go : {t : Text} → ToldFrom 0 ls t → TextIs ls t
    go (whole ws k) = claims.whole ws k
    go (broken j k e f) = let g : j ≡ k = omega arith in rw g at (claims.broken j f)

all-stored : (ls : List Line) → T (all_valid ls) → T (all_stored ls)
unfolding all_valid
all-stored [] h = tt
all-stored (l ∷ ls) h = and-map (valid l) (all_valid ls) (stored l) (all_stored ls) (valid-stored l) (all-stored ls) h

text_says : (ls : List Line) (ws : List TextLine) → T (all_valid ls) → text_from 0 ls ≡ all ws → AllHaveText ls ws
text_says ls ws h e = go (told-from 0 ls (all-stored ls h)) e
  where
    go : {t : Text} → ToldFrom 0 ls t → t ≡ all ws → AllHaveText ls ws
    go (whole vs k) f = subst (AllHaveText ls) (all_same f) k
    go (broken j i g k) f = absurd (let z : ◌≡◌ {A = ℕ} 0 1 = cc in omega arith)

says-text : (i : ℕ) {ls : List Line} {ws : List TextLine} → AllHaveText ls ws → text_from i ls ≡ all ws
unfolding text_from
says-text i no_lines = refl
says-text i (one_more {l} {ls} {w} {ws} s k) = cc (line-found l w s, says-text (suc i) k)

-- valid lines are read from their texts
record Reads (i : ℕ) (ls : List Line) (ws : List TextLine) : Type 0 where
  valid-lines : ValidLines ws
  judged : judged_from i (map content_by ws) ≡ score.all ls 0
  count : length ws ≡ length ls

lines-read : (i : ℕ) {ls : List Line} {ws : List TextLine} → T (all_valid ls) → AllHaveText ls ws → Reads i ls ws
unfolding all_valid ValidLines judged_from
lines-read i h no_lines = record { valid-lines = tt; judged = refl; count = refl }
lines-read i h (one_more {l} {ls} {w} {ws} s k) =
    let g = and_l (valid l) (all_valid ls) h in
    let r = lines-read (suc i) (and_r (valid l) (all_valid ls) h) k in
    record {
      valid-lines = (text-valid l w (valid-stored l g) s, r.valid-lines);
      judged = ap (λ (x : Read Line). line_then x i (λ p. judged_from (suc i) (map content_by ws))) (content-line l (content_by w) g s.is-content) ∙ ap (score.before l) r.judged;
      count = ap suc r.count;
    }

text-reads : (ls : List Line) (ws : List TextLine) → T (all_valid ls) → length ls ≤ most_lines → AllHaveText ls ws → text_of (text_bytes ws) ≡ taken ls
text-reads ls ws h few k =
    let r = lines-read 0 h k in
    text-read (text_bytes ws) ws (record { encoded = refl; valid = r.valid-lines; few = omega (arith, r.count) }) ∙ ap judgement r.judged

-- ---- a text that was written

record WroteText (area : List ℕ) (n : ℕ) (new : List ℕ) (w : call.WriteResult) : Type 0 where
  fault : (area_fault area n 0).answer ≡ answer.Taken
  few : n ≤ most_lines
  lines : List TextLine
  are : text_from 0 (area_lines area n 0) ≡ all lines
  bytes : take w.bytes new ≡ text_bytes lines

wrote-text : (area : List ℕ) (n : ℕ) (out new : List ℕ) (w : call.WriteResult) → TextDone area n out new w → number_of w.answer ≡ 0 → WroteText area n new w
unfolding text_written text_left
wrote-text area n out new w d z = go (is_taken (area_fault area n 0).answer) (leb n most_lines) (text_from 0 (area_lines area n 0)) refl refl refl d.answers d.leaves
  where
    not-zero : {x : call.WriteResult} → w ≡ x → (number_of x.answer ≡ 0 → ⊥) → ⊥
    not-zero e f = f (sym (ap (λ (r : call.WriteResult). number_of r.answer) e) ∙ z)

    go : (a b : Bool) (t : Text) → is_taken (area_fault area n 0).answer ≡ a → leb n most_lines ≡ b → text_from 0 (area_lines area n 0) ≡ t
        → w ≡ cond a (cond b (told_text t (length out)) (refusal answer.OutOfRange 0)) (refusal (area_fault area n 0).answer (area_fault area n 0).line)
        → new ≡ cond a (cond b (left_text t out) out) out → WroteText area n new w
    go true true (all ws) e f g x y =
        record {
          fault = zero_is (area_fault area n 0).answer (eqb-true (number_of (area_fault area n 0).answer) 0 e);
          few = leb-true n most_lines f;
          lines = ws;
          are = g;
          bytes = told-zero (text_bytes ws) out new w x y z;
        }
    go true true (lacking i) e f g x y = absurd (not-zero x (λ k. omega arith))
    go true false t e f g x y = absurd (not-zero x (λ k. omega arith))
    go false b t e f g x y = absurd (not-zero x (λ k. true≢false (sym (zero-taken (area_fault area n 0).answer k) ∙ e)))

-- ---- refusals

pub text-like-score : TextLikeScore
unfolding score_written text_written
text-like-score area to bytes out new n v w s t = go (is_taken (area_fault area n 0).answer) (leb n most_lines) (text_from 0 (area_lines area n 0)) s.answers t.answers
  where
    same : {x : call.WriteResult} → v ≡ x → w ≡ x → LikeScore v w
    same e f = record { refuses = λ k. f ∙ sym e; otherwise = λ k. subst (λ (y : call.WriteResult). TextNumber (number_of y.answer)) (e ∙ sym f) (room k) }

    fits : (b : List ℕ) (r : ℕ) → RoomNumber (number_of (told b r).answer)
    fits b r = by (leb (length b) r)
      where
        by : (t : Bool) → RoomNumber (number_of (cond t (record { answer = answer.Taken; line = 0; bytes = length b }) (refusal answer.NoRoom 0)).answer)
        by true = written
        by false = too_short

    later : (b : List ℕ) {x : call.WriteResult} → v ≡ told b (length to) → w ≡ x → TextNumber (number_of x.answer) → LikeScore v w
    later b e f k =
        record {
          refuses = λ never. absurd (never (subst (λ (y : call.WriteResult). RoomNumber (number_of y.answer)) (sym e) (fits b (length to))));
          otherwise = λ z. subst (λ (y : call.WriteResult). TextNumber (number_of y.answer)) (sym f) k;
        }

    go : (a b : Bool) (x : Text)
        → v ≡ cond a (cond b (told (score_bytes (area_lines area n 0)) (length to)) (refusal answer.OutOfRange 0))
        (refusal (area_fault area n 0).answer (area_fault area n 0).line)
        → w ≡ cond a (cond b (told_text x (length out)) (refusal answer.OutOfRange 0)) (refusal (area_fault area n 0).answer (area_fault area n 0).line) → LikeScore v w
    go true true (all ws) e f = later (score_bytes (area_lines area n 0)) e f (room (fits (text_bytes ws) (length out)))
    go true true (lacking i) e f = later (score_bytes (area_lines area n 0)) e f no_text
    go true false x e f = same e f
    go false b x e f = same e f

-- ---- what was written reads back

pub text-read-back : TextReadBack
text-read-back area out bytes n w h done z =
    let k = wrote-text area n out bytes w done z in
    let ls = area_lines area n 0 in
    let g = (slots-back area n 0 h k.fault).0 in
    ap text_of k.bytes ∙ text-reads ls k.lines g (omega (arith, lines-count area n 0, k.few)) (text_says ls k.lines g k.are)

pub text-slots-back : TextSlotsBack
text-slots-back area out bytes into new n w d h done z dec fit =
    let ls = area_lines area n 0 in
    let k = wrote-text area n out bytes w done z in
    let b = slots-back area n 0 h k.fault in
    let c : length ls ≡ n = lines-count area n 0 in
    let s : text_of (take w.bytes bytes) ≡ taken ls = text-read-back area out bytes n w h done z in
    slots-decoded area n ls into new d c b.1 (sym (ap length b.1) ∙ words_long ls b.0 ∙ ap (λ (j : ℕ). slot_words * j) c)
    (decodes (text_of (take w.bytes bytes)) ls into new d (ap (λ (x : Score). x.answer) s) (ap (λ (x : Score). x.lines) s) (omega arith) dec)

pub never-refused-18 : NeverRefused18
never-refused-18 area out bytes n w h done z e =
    let k : number_of answer.Taken ≡ 18 = sym (ap (λ (x : Score). number_of x.answer) (text-read-back area out bytes n w h done z)) ∙ e in omega arith

-- ---- a text that was read

-- a number in text means a float that is held
meaning-fits : (t : Numeral) → T (fits binary32 (meaning t))
unfolding meaning
meaning-fits t = float_fits t.minus (whole_of t) (length t.decimals)

values-fit : (vs : List (Behind Numeral)) → T (all_of (fits binary32) (map (λ (x : Behind Numeral). meaning x.element) vs))
values-fit [] = tt
values-fit (x ∷ xs) =
    and_i (fits binary32 (meaning x.element)) (all_of (fits binary32) (map (λ (y : Behind Numeral). meaning y.element) xs)) (meaning-fits x.element)
    (values-fit xs)

event-fit : (f : Form) → T (all_of (fits binary32) (event_numbers (form.event_content f)))
event-fit (instr l t n d vs) =
    and_i (fits binary32 (meaning d.element)) (all_of (fits binary32) (map (λ (x : Behind Numeral). meaning x.element) vs)) (meaning-fits d.element)
    (values-fit vs)
event-fit (control t l more n x) = and_i (fits binary32 (meaning x.element)) true (meaning-fits x.element) tt
event-fit (tempo t more x) = and_i (fits binary32 (meaning x.element)) true (meaning-fits x.element) tt
event-fit (end t more) = tt

content-fit : (w : TextLine) → T (all_of (fits binary32) (numbers_of (content_by w)))
unfolding content_by
content-fit w =
    and_i (fits binary32 (meaning (form.time_content w.form))) (all_of (fits binary32) (event_numbers (form.event_content w.form))) (meaning-fits (form.time_content w.form))
    (event-fit w.form)

form-names : (f : Form) → ValidForm f → SmallNames (form.event_content f)
unfolding ValidForm SmallNames
form-names (instr none t n d vs) h = h.1.1.0
form-names (instr (some l) t n d vs) h = (h.0, h.1.1.0)
form-names (control t none more n x) h = h.1.1.0
form-names (control t (some l) more n x) h = (h.1.0, h.1.1.0)
form-names (tempo t more x) h = tt
form-names (end t more) h = tt

-- a line that was read from text is valid and has a text
abbrev HasText : Line → Type 0
HasText l = T (valid l) × ((w : TextLine) × IsTextOf l w)

line-has : (w : TextLine) (l : Line) (q : ℕ) → ValidForm w.form → line_content (content_by w) ≡ got l q → HasText l
unfolding content_by
line-has w l q h e =
    let b = content-back (content_by w) l q (content-fit w) (form-names w.form h) e in
    go b.0 b.1 (every-line-told l (valid-stored l b.0))
  where
    go : T (valid l) → content_of l ≡ some (content_by w) → {o : Option TextLine} → Told l o → HasText l
    go a s (claims.content v k u n) = (a, (v, k))
    go a s (claims.unsaid u n) = absurd (content-not l w h s u)

judged-back : {P : Type 0} (i : ℕ) (s : Content) (ss : List Content) (ls : List Line) (p : ℕ) → judged_from i (s ∷ ss) ≡ score.all ls p
    → ((l : Line) (q : ℕ) (ms : List Line) (r : ℕ) → line_content s ≡ got l q → judged_from (suc i) ss ≡ score.all ms r → ls ≡ l ∷ ms → P) → P
unfolding judged_from
judged-back {P} i s ss ls p e then = go (line_content s) refl (judged_from (suc i) ss) refl e
  where
    go : (x : Read Line) → line_content s ≡ x → (y : Lines) → judged_from (suc i) ss ≡ y → line_then x i (λ q. y) ≡ score.all ls p → P
    go (got l q) f (score.all ms r) g k = then l q ms r f g (cc)
    go (got l q) f (score.faulty z j) g k = absurd (let n : ◌≡◌ {A = ℕ} 0 1 = cc in omega arith)
    go (refused z) f y g k = absurd (let n : ◌≡◌ {A = ℕ} 0 1 = cc in omega arith)

record AllHave (ls : List Line) (n : ℕ) : Type 0 where
  are-valid : T (all_valid ls)
  texts : List TextLine
  content : AllHaveText ls texts
  count : length ls ≡ n

lines-have : (i : ℕ) (ws : List TextLine) (ls : List Line) (p : ℕ) → ValidLines ws → judged_from i (map content_by ws) ≡ score.all ls p → AllHave ls (length ws)
unfolding ValidLines all_valid
lines-have i [] ls p h e = let z : ls ≡ [] = unfold judged_from in cc in rw z (record { are-valid = tt; texts = []; content = no_lines; count = refl })
lines-have i (w ∷ ws) ls p h e =
    judged-back i (content_by w) (map content_by ws) ls p e (λ l q ms r f g k.
    let a = line-has w l q h.0 f in
    let b = lines-have (suc i) ws ms r h.1 g in
    rw k (record {
      are-valid = and_i (valid l) (all_valid ms) a.0 b.are-valid;
      texts = a.1.0 ∷ b.texts;
      content = one_more a.1.1 b.content;
      count = ap suc b.count;
    }))

no-fault : (f : Fault) → answer_of f ≡ answer.Taken → ⊥
unfolding answer_of
no-fault fault.CutShort e = let z : ◌≡◌ {A = ℕ} 0 1 = cc in omega arith
no-fault fault.NotCarried e = let z : ◌≡◌ {A = ℕ} 0 1 = cc in omega arith
no-fault fault.OutOfRange e = let z : ◌≡◌ {A = ℕ} 0 1 = cc in omega arith
no-fault fault.TooManyValues e = let z : ◌≡◌ {A = ℕ} 0 1 = cc in omega arith

-- so a text that is taken is of such lines
record TextTaken (s : List ℕ) : Type 0 where
  lines : List Line
  is : text_of s ≡ taken lines
  few : length lines ≤ most_lines
  have : AllHave lines (length lines)

text-taken : (s : List ℕ) → (text_of s).answer ≡ answer.Taken → TextTaken s
text-taken s e = go (every-text s)
  where
    by_lines : (ws : List TextLine) (x : Lines) → judged_from 0 (map content_by ws) ≡ x → Encodes s ws → text_of s ≡ judgement x → TextTaken s
    by_lines ws (score.all ls p) f k g =
        let h = lines-have 0 ws ls p k.valid f in
        record { lines = ls; is = g; few = omega (arith, h.count, k.few); have = record { are-valid = h.are-valid; texts = h.texts; content = h.content; count = refl } }
    by_lines ws (score.faulty z i) f k g = absurd (no-fault z (sym (ap (λ (x : Score). x.answer) g) ∙ e))

    go : Either s → TextTaken s
    go (encodes ws k) = by_lines ws (judged_from 0 (map content_by ws)) refl k (text-read s ws k)
    go (breaks i b) =
        absurd (let z : answer.Taken ≡ answer.BadText = sym e ∙ ap (λ (x : Score). x.answer) (text-broken s i b) in let n : ◌≡◌ {A = ℕ} 0 1 = cc in omega arith)

pub read-has-text : ReadHasText
read-has-text s z =
    let t = text-taken s (zero_is (text_of s).answer z) in
    (t.have.texts, subst (λ (ls : List Line). AllHaveText ls t.have.texts) (sym (ap (λ (x : Score). x.lines) t.is)) t.have.content)

-- where every line has a text, only the room can lack
abbrev Tells : List ℕ → List ℕ → call.WriteResult → List ℕ → Type 0
Tells out new w bytes = (w ≡ told bytes (length out)) × (new ≡ left bytes out)

told-text : (area : List ℕ) (n : ℕ) (out new : List ℕ) (w : call.WriteResult) (ws : List TextLine) → (area_fault area n 0).answer ≡ answer.Taken → n ≤ most_lines
    → text_from 0 (area_lines area n 0) ≡ all ws → TextDone area n out new w → Tells out new w (text_bytes ws)
unfolding text_written text_left
told-text area n out new w ws f few e d =
    let a = ap is_taken f in
    let b = le-leb n most_lines few in (
      d.answers ∙ cond-true _ _ a ∙ cond-true _ _ b ∙ ap (λ (t : Text). told_text t (length out)) e,
      d.leaves ∙ cond-true _ _ a ∙ cond-true _ _ b ∙ ap
          (λ (t : Text). left_text t out) e,
    )

written-again : (s out new : List ℕ) (w : call.WriteResult) (ws : List TextLine) → text_of (text_bytes ws) ≡ text_of s → Tells out new w (text_bytes ws) → WrittenAgain s new w
written-again s out new w ws e t =
    record { number = go (leb (length (text_bytes ws)) (length out)) refl; again = λ z. ap text_of (told-zero (text_bytes ws) out new w t.0 t.1 z) ∙ e }
  where
    go : (b : Bool) → leb (length (text_bytes ws)) (length out) ≡ b → RoomNumber (number_of w.answer)
    go true k = let a = t.0 in rw (a, k) written
    go false k = let a = t.0 in rw (a, k) too_short

pub text-read-again : TextReadAgain
text-read-again s area words out new d w dec z done =
    let a = decoded-zero (text_of s) area words d dec z in
    let t = text-taken s a.0 in
    let ls = t.lines in
    let fit : slot_words * length ls ≤ length area = subst (λ (x : List Line). slot_words * length x ≤ length area) (ap (λ (x : Score). x.lines) t.is) a.1 in
    let k = decodes (text_of s) ls area words d a.0 (ap (λ (x : Score). x.lines) t.is) fit dec in
    let f = held-from ls words (drop (length (area_words ls)) area) 0 t.have.are-valid k.words in
    let ws = t.have.texts in
    written-again s out new w ws (text-reads ls ws t.have.are-valid t.few t.have.content ∙ sym t.is)
    (told-text words (length ls) out new w ws f.0 t.few (ap (text_from 0) f.1 ∙ says-text 0 t.have.content)
    (subst (λ (n : ℕ). TextDone words n out new w) (ap (λ (x : Decoded). x.count) k.is) done))
