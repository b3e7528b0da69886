-- What was read from text is written and reads again. Assumes nothing.
use Prim.Native.Nat.{ℕ, zero, suc, ◌-◌, ◌≤◌}
use mathlib.Core.Path.{◌≡◌, refl, sym, ap, ◌∙◌, subst}
use mathlib.Core.Bool.{Bool, true, false, cond, ◌&&◌, true≢false}
use mathlib.Core.List.{List, [], ◌∷◌, ◌++◌, append-nil}
use mathlib.Core.Option.{Option, none, some}
use native.Mathlib.Omega.{arith}
use borrow.Author.Tests.{eqb-true}
use lib.Dec.{T, eqb, le→leb}
use lib.ListN.{length, take, replicate}
use lib.Seq.{take_at}
use lib.Ieee.{Float, binary32, fits}
use lib.Ieee.Bits.{of_bits-fits}
use lib.Ieee.Fits.{and_i, and_l, and_r, eq→eqb}
use Rattle.base_laws.proofs.Choice.{cond-true, cond-false}
use Rattle.base_answer.specs.Numbers.{number_of, is_taken}
use Rattle.base_answer.specs.declared.Answer.TheVariants as answer
use Rattle.base_formats.specs.Format.{got, all as all_of}
use Rattle.score_line.specs.LineFormat.{zero_float, padded, label_of, label_parts, count_of, kind_of, values_of, used, valid}
use Rattle.score_line.specs.declared.When.TheVariants.{Timed}
use Rattle.score_line.specs.declared.Event.{Event}
use Rattle.score_line.specs.declared.Event.TheVariants.{Instr, Control, End, Tempo}
use Rattle.score_line.specs.declared.Line.{Line}
use Rattle.score_line.specs.Reading.{refused_line, line_read, line_in_words}
use Rattle.score_line.specs.declared.LineRead.{LineRead}
use Rattle.text_format.specs.Content.{Content, words_of, line_content}
use Rattle.text_format.specs.Content as content
use Rattle.score_line_writer.specs.Writing.{line_words, line_fault}
use Rattle.score_line_writer.specs.Claims.{taken}
use Rattle.score_line_writer.specs.Stored.{is_symbol, stored_event, stored, normalized}
use Rattle.score_line_writer.proofs.LineLaw.{padded-long}
use Rattle.score_line_writer.proofs.AnyLine.{every-line-read, every-normalized}
use Rattle.text_format.proofs.Answers.{Readable, readable}
use Rattle.text_line_writer.specs.LineText.{event_content, content_of, event_numbers, numbers_of}
use Rattle.text_writer.proofs.Stored.{and-map}
use Rattle.text_writer.proofs.Back.{Counts, timed-words, SmallNames}

-- ---- what a line of text says, as a line

event_for : content.Event → Event
event_for (content.instr lab name d vs) = Instr (label_of lab) name d
event_for (content.control none name x) = End
event_for (content.control (some l) name x) = Control l name x
event_for (content.tempo x) = Tempo x
event_for content.end = End

values_for : content.Event → List Float
values_for (content.instr lab name d vs) = vs
values_for (content.control lab name x) = []
values_for (content.tempo x) = []
values_for content.end = []

line_for : Content → Line
line_for s =
    record {
      when = Timed false s.time;
      priority = s.priority;
      event = event_for s.event;
      count = length (values_for s.event);
      values = padded
          (values_for s.event);
    }

in_use : (vs : List Float) → take (length vs) (padded vs) ≡ vs
unfolding padded
in_use vs = take_at vs (replicate (8 - length vs) zero_float) (length vs) refl

label-again : (lab : Option ℕ) → label_parts (label_of lab) ≡ lab
label-again none = refl
label-again (some n) = refl

-- it says the same, and nothing lies behind the places in use
record Again (e : content.Event) : Type 0 where
  says : event_content (event_for e) (length (values_for e)) (padded (values_for e)) ≡ e
  counts : Counts (event_for e) (length (values_for e)) (padded (values_for e))
  few : length (values_for e) ≤ 8
  uses : count_of (kind_of (event_for e)) (values_of (kind_of (event_for e)) (length (values_for e)) (padded (values_for e))) ≡ length (values_for e)

again : (e : content.Event) → Readable e → Again e
unfolding event_for values_for
again (content.instr lab name d vs) h =
    record { says = λ i. content.instr (label-again lab i) name d (in_use vs i); counts = ap length (in_use vs) ∙ omega arith; few = h; uses = refl }
again (content.control none name x) h = absurd h
again (content.control (some l) name x) h = record { says = refl; counts = tt; few = omega arith; uses = refl }
again (content.tempo x) h = record { says = refl; counts = tt; few = omega arith; uses = refl }
again content.end h = record { says = refl; counts = tt; few = omega arith; uses = refl }

-- its numbers are those of the line
for-words : (s : Content) → Readable s.event → words_of s ≡ line_words (line_for s)
unfolding line_for
for-words s h =
    let e = s.event in
    let a = again e h in
    ap (λ (e : content.Event). words_of (record { priority = s.priority; time = s.time; event = e })) (sym a.says)
    ∙ timed-words s.priority s.time (event_for e) (length (values_for e)) (padded (values_for e)) a.counts

for-meant : (s : Content) → Readable s.event → normalized (line_for s) ≡ line_for s
unfolding line_for
for-meant s h =
    let vs = values_for s.event in
    let u = (again s.event h).uses in
    let v : padded (take (used (line_for s)) (padded vs)) ≡ padded vs = ap (λ (n : ℕ). padded (take n (padded vs))) u ∙ ap padded (in_use vs) in
    (λ i. record { when = Timed false s.time; priority = s.priority; event = event_for s.event; count = u i; values = v i })

-- and it is one that the code can hold
zeros-fit : (n : ℕ) → T (all_of (fits binary32) (replicate n zero_float))
zeros-fit zero = tt
zeros-fit (suc n) = and_i (fits binary32 zero_float) (all_of (fits binary32) (replicate n zero_float)) (of_bits-fits binary32 0) (zeros-fit n)

append-fit : (vs zs : List Float) → T (all_of (fits binary32) vs) → T (all_of (fits binary32) zs) → T (all_of (fits binary32) (vs ++ zs))
append-fit [] zs h k = k
append-fit (v ∷ vs) zs h k =
    and-map (fits binary32 v) (all_of (fits binary32) vs) (fits binary32 v) (all_of (fits binary32) (vs ++ zs)) (λ j. j) (λ j. append-fit vs zs j k) h

values-fit : (e : content.Event) → T (all_of (fits binary32) (event_numbers e)) → T (all_of (fits binary32) (padded (values_for e)))
unfolding padded values_for
values-fit (content.instr lab name d vs) h =
    append-fit vs (replicate (8 - length vs) zero_float) (and_r (fits binary32 d) (all_of (fits binary32) vs) h) (zeros-fit (8 - length vs))
values-fit (content.control lab name x) h = zeros-fit 8
values-fit (content.tempo x) h = zeros-fit 8
values-fit content.end h = zeros-fit 8

event-fit : (e : content.Event) → T (all_of (fits binary32) (event_numbers e)) → SmallNames e → T (stored_event (event_for e))
unfolding event_for SmallNames
event-fit (content.instr none name d vs) h n = and_i (is_symbol name) (fits binary32 d) (le→leb name 65535 n) (and_l (fits binary32 d) (all_of (fits binary32) vs) h)
event-fit (content.instr (some l) name d vs) h n =
    and_i (is_symbol l) (is_symbol name && fits binary32 d) (le→leb l 65535 n.0)
    (and_i (is_symbol name) (fits binary32 d) (le→leb name 65535 n.1) (and_l (fits binary32 d) (all_of (fits binary32) vs) h))
event-fit (content.control none name x) h n = tt
event-fit (content.control (some l) name x) h n =
    and_i (is_symbol l) (is_symbol name && fits binary32 x) (le→leb l 65535 n.0)
    (and_i (is_symbol name) (fits binary32 x) (le→leb name 65535 n.1) (and_l (fits binary32 x) true h))
event-fit (content.tempo x) h n = and_l (fits binary32 x) true h
event-fit content.end h n = tt

for-stored : (s : Content) → Readable s.event → T (all_of (fits binary32) (numbers_of s)) → SmallNames s.event → T (stored (line_for s))
unfolding line_for
for-stored s h f n =
    let e = s.event in
    let ns = all_of (fits binary32) (event_numbers e) in
    let k = and_r (fits binary32 s.time) ns f in
    let b = eqb (length (padded (values_for e))) 8 in
    let v = all_of (fits binary32) (padded (values_for e)) in
    and_i (fits binary32 s.time) (stored_event (event_for e) && (b && v)) (and_l (fits binary32 s.time) ns f)
    (and_i (stored_event (event_for e)) (b && v) (event-fit e k n) (and_i b v (eq→eqb (padded-long (values_for e) (again e h).few)) (values-fit e k)))

for-content : (s : Content) → Readable s.event → content_of (line_for s) ≡ some s
unfolding line_for
for-content s h = λ i. some (record { priority = s.priority; time = s.time; event = (again s.event h).says i })

-- so a line that was read from what a line of text says is valid, and says the same
pub content-back : (s : Content) (l : Line) (q : ℕ) → T (all_of (fits binary32) (numbers_of s)) → SmallNames s.event → line_content s ≡ got l q
    → T (valid l) × (content_of l ≡ some s)
unfolding line_content line_read line_in_words
content-back s l q f n e =
    let m = line_for s in
    let r = readable s e in
    let h = for-stored s r f n in
    by (is_taken (line_fault m)) refl r h (cc (for-words s r, append-nil (line_words m), (every-line-read m h).in_words []))
  where
    by : (b : Bool) → is_taken (line_fault (line_for s)) ≡ b → Readable s.event → T (stored (line_for s))
        → taken l q ≡ cond (is_taken (line_fault (line_for s))) (taken (normalized (line_for s)) (length (line_words (line_for s)))) (refused_line (line_fault (line_for s)))
        → T (valid l) × (content_of l ≡ some s)
    by true b r h k =
        let m : l ≡ normalized (line_for s) = ap (λ (x : LineRead). x.line) (k ∙ cond-true _ _ b) in
        let z : number_of (line_fault (line_for s)) ≡ 0 = eqb-true (number_of (line_fault (line_for s))) 0 b in
        (subst (λ (x : Line). T (valid x)) (sym m) (every-normalized (line_for s) h z).is-valid, cc (for-meant s r, for-content s r))
    by false b r h k =
        let m : answer.Taken ≡ line_fault (line_for s) = unfold refused_line in ap (λ (x : LineRead). x.answer) (k ∙ cond-false _ _ b) in
        absurd (true≢false (ap is_taken m ∙ b))
