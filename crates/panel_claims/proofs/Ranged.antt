-- Every line that is read has a symbol of 16 bits, if it is a control line, and a tempo of at least 1, if it is a tempo line.
use mathlib.Core.Path.{◌≡◌, refl}
use mathlib.Core.Bool.{Bool, true, false, cond}
use mathlib.Core.List.{List, [], ◌∷◌}
use Prim.Native.Nat.{ℕ, zero, suc, ◌≤◌, ◌<◌}
use native.Mathlib.Omega.{arith}
use lib.Dec.{eqb, leb}
use lib.Ieee.{Float, binary32, of_bits}
use lib.ListN.{length}
use borrow.Author.Tests.{leb-true}
use Rattle.base_answer.specs.Numbers.{is_taken}
use Rattle.base_answer.specs.declared.Answer.{Answer}
use Rattle.base_answer.specs.declared.Answer.TheVariants as answer
use Rattle.base_bitstream.specs.Bits.{bits_of}
use Rattle.base_bitstream.specs.Filling.{filled}
use Rattle.base_bitstream.specs.Fields.{read_at}
use Rattle.std.specs.Prelude.{Option, Some, None}
use Rattle.base_timebase.specs.Time.{cycle_in, tempo_bits}
use Rattle.base_timebase.proofs.RangesAndTicks.{tempo-from-to, cycle-from-to}
use Rattle.base_formats.specs.Format.{Source, bit_source, keypad_source, Read, got, refused, and_then, number_from}
use Rattle.base_formats.specs.Format as format
use Rattle.base_formats.specs.Description.{Description, flag, pair, choose, format as format_of}
use Rattle.base_formats.specs.declared.Fault.{Fault}
use Rattle.score_line.specs.LineFormat.{in_range, symbol, labelled, float, when, Kind, instr, control, end, tempo, kind, Body, body, Values, values, Parts, after_time, parts, event_of, line}
use Rattle.score_line.specs.inside.Reading.{float_from}
use Rattle.score_line.specs.Reading.{line_of, line_from, refused_line, line_read, line_at, whole_run, line_in_words, keypad_line}
use Rattle.score_line.specs.declared.Range.TheVariants as range
use Rattle.score_line.specs.declared.When.{When}
use Rattle.score_line.specs.declared.Event.{Event}
use Rattle.score_line.specs.declared.Event.TheVariants.{Instr, Control, End, Tempo}
use Rattle.score_line.specs.declared.Line.{Line}
use Rattle.score_line.specs.declared.LineRead.{LineRead}
use Rattle.score_reader.specs.Score.{Lines, all, faulty, before, line_then, lines_from, Score, ended, counted, score_of, whole_line, opened, unit_of}
use Rattle.text_format.specs.Content.{Content, words_of, line_content, judged_from, judgement}
use Rattle.text_format.specs.inside.Reading.{Text, lines, bad, judged, text_of}
use Rattle.text_format.specs.inside.Reading as text-form
use Rattle.orchestra_semantics.specs.Meaning.{no_symbol}
use Rattle.player_model.specs.Lists.{All}
use Rattle.player_model.specs.Calls.{Entrance, stick, unit, keypad, text, reads, single}
use Rattle.player_model.proofs.Lists.{either_way}
use Rattle.player_model.proofs.Count.{steady}

abbrev pub ranged : Event → Type 0
ranged (Instr label name d) = Unit {0}
ranged (Control label x y) = x < no_symbol
ranged End = Unit {0}
ranged (Tempo t) = 1024 ≤ cycle_in t

abbrev pub AllRanged : List Line → Type 0
AllRanged ls = All (λ (l : Line). ranged l.event) ls

pub ranged-steady : (e : Event) → ranged e → steady e
ranged-steady (Instr label name d) h = tt
ranged-steady (Control label x y) h = tt
ranged-steady End h = tt
ranged-steady (Tempo t) h = h

-- of what was read, if anything was
ReadHolds : {A : Type 0} → (A → Type 0) → Read A → Type 0
ReadHolds P (got a p) = P a
ReadHolds P (refused f) = Unit {0}

then-holds : {A B : Type 0} (P : A → Type 0) (Q : B → Type 0) (x : Read A) (k : A → ℕ → Read B) → ReadHolds P x
    → ((a : A) (p : ℕ) → P a → ReadHolds Q (k a p)) → ReadHolds Q (and_then x k)
unfolding ReadHolds
then-holds P Q (got a p) k h f = f a p h
then-holds P Q (refused g) k h f = tt

-- whatever was read before
any-holds : {A B : Type 0} (Q : B → Type 0) (x : Read A) (k : A → ℕ → Read B) → ((a : A) (p : ℕ) → ReadHolds Q (k a p)) → ReadHolds Q (and_then x k)
unfolding ReadHolds
any-holds Q (got a p) k f = f a p
any-holds Q (refused g) k f = tt

every_holds : {A : Type 0} (P : A → Type 0) (x : Read A) → ((a : A) → P a) → ReadHolds P x
unfolding ReadHolds
every_holds P (got a p) f = f a
every_holds P (refused g) f = tt

-- of a value that passes a test, and else of nothing
tested-holds : {A : Type 0} (P : A → Type 0) (a : A) (p : ℕ) (f : Fault) (c : Bool) → (c ≡ true → P a) → ReadHolds P (cond c (got a p) (refused f))
unfolding ReadHolds
tested-holds P a p f true h = h refl
tested-holds P a p f false h = tt

module _ (s : Source) where
  -- of the first of two, and of what follows it
  first_holds : {K : Type 0} {B : K → Type 0} (P : K → Type 0) (d : Description K) (e : (k : K) → Description (B k)) (at : ℕ) → ReadHolds P ((format_of d).from s at)
      → ReadHolds (λ (x : (k : K) × B k). P x.0) ((format_of (choose d e)).from s at)
  unfolding ReadHolds
  first_holds P d e at h = then-holds P _ ((format_of d).from s at) _ h (λ k p r. any-holds _ ((format_of (e k)).from s p) _ (λ b q. r))

  second_holds : {K : Type 0} {B : K → Type 0} (Q : (k : K) → B k → Type 0) (d : Description K) (e : (k : K) → Description (B k)) (at : ℕ)
      → ((k : K) (p : ℕ) → ReadHolds (Q k) ((format_of (e k)).from s p)) → ReadHolds (λ (x : (k : K) × B k). Q x.0 x.1) ((format_of (choose d e)).from s at)
  unfolding ReadHolds
  second_holds Q d e at h = any-holds _ ((format_of d).from s at) _ (λ k p. then-holds (Q k) _ ((format_of (e k)).from s p) _ (h k p) (λ b q r. r))

  tempo-float : (at : ℕ) → ReadHolds (λ (t : Float). 1024 ≤ cycle_in t) (float_from s range.Tempo at)
  unfolding float in_range
  tempo-float at = any-holds _ (number_from s 32 at) _
      (λ b p. tested-holds _ _ _ _ (tempo_bits b) (λ h. let t = tempo-from-to b h in (cycle-from-to (of_bits binary32 b) t.0 t.1).0))

  symbol-below : (at : ℕ) → ReadHolds (λ (x : ℕ). x < no_symbol) ((format_of symbol).from s at)
  unfolding format.small
  symbol-below at = any-holds _ (number_from s 16 at) _ (λ v p. tested-holds _ _ _ _ (leb v 65535) (λ h. omega (arith, leb-true v 65535 h)))

  -- an event's kind and fields
  abbrev RangedBody : (k : Kind) → Body k → Type 0
  RangedBody k x = ranged (event_of k x)

  body-ranged : (k : Kind) (at : ℕ) → ReadHolds (RangedBody k) ((format_of (body k)).from s at)
  unfolding body labelled
  body-ranged instr at = every_holds (RangedBody instr) _ (λ x. tt)
  body-ranged control at =
      any-holds (RangedBody control) ((format.flag).from s at) _ (λ has p. either_way (ReadHolds (RangedBody control)) has
      (second_holds (λ (l : ℕ) (x : ℕ × Float). x.0 < no_symbol) symbol (λ l. pair symbol (float range.Value)) p
      (λ l q. first_holds (λ (x : ℕ). x < no_symbol) symbol (λ x. float range.Value) q (symbol-below q))) (unfold ReadHolds in tt))
  body-ranged end at = every_holds (RangedBody end) _ (λ x. tt)
  body-ranged tempo at = tempo-float at

  line-ranged : (at : ℕ) → ReadHolds (λ (l : Line). ranged l.event) (line_from s at)
  unfolding line parts after_time ReadHolds
  line-ranged at =
      then-holds (λ (x : Parts). RangedBody x.1.1.0 x.1.1.1.0) (λ (l : Line). ranged l.event) ((format_of parts).from s at) _
      (second_holds (λ (w : When) (y : Bool × ((k : Kind) × (Body k × Values k))). RangedBody y.1.0 y.1.1.0) when (λ w. after_time) at (λ w p.
      second_holds (λ (b : Bool) (z : (k : Kind) × (Body k × Values k)). RangedBody z.0 z.1.0) flag (λ b. choose kind (λ k. pair (body k) (values k))) p (λ b q.
      second_holds (λ (k : Kind) (y : Body k × Values k). RangedBody k y.0) kind (λ k. pair (body k) (values k)) q (λ k r.
      first_holds (RangedBody k) (body k) (λ y. values k) r (body-ranged k r)))))
      (λ x p h. h)

-- ---- what the calls read

abbrev RangedRead : LineRead → Type 0
RangedRead r = ranged r.line.event

read-ranged : (r : Read Line) → ReadHolds (λ (l : Line). ranged l.event) r → RangedRead (line_read r)
unfolding ReadHolds line_read refused_line line_of
read-ranged (got l p) h = h
read-ranged (refused f) h = tt

refused-ranged : (a : Answer) → RangedRead (refused_line a)
unfolding refused_line line_of
refused-ranged a = tt

-- a line with nothing behind it
alone-ranged : (a b : Bool) (r : LineRead) → RangedRead r → RangedRead (cond a (cond b r (refused_line answer.LeftOver)) r)
alone-ranged a b r h = either_way RangedRead a (either_way RangedRead b h (refused-ranged _)) h

keypad-ranged : (words : List ℕ) → RangedRead (keypad_line words)
unfolding keypad_line whole_run line_in_words
keypad-ranged words =
    let r = line_read (line_from (keypad_source words) 0) in
    alone-ranged (is_taken r.answer) (eqb r.next (length words)) r (read-ranged (line_from (keypad_source words) 0) (line-ranged (keypad_source words) 0))

unit-ranged : (bits : List Bool) → RangedRead (unit_of bits)
unfolding unit_of opened line_at whole_line
unit-ranged bits = go (read_at bits 0 2)
  where
    go : (g : Option (ℕ × ℕ)) → RangedRead (opened bits g)
    go (Some o) =
        let r = line_at bits o.1 in
        either_way RangedRead (eqb o.0 0)
        (alone-ranged (is_taken r.answer) (filled bits r.next) r (read-ranged (line_from (bit_source bits) o.1) (line-ranged (bit_source bits) o.1)))
        (refused-ranged answer.NotCarried)
    go None = refused-ranged answer.CutShort

LinesHold : Lines → Type 0
LinesHold (all ls p) = AllRanged ls
LinesHold (faulty f i) = Unit {0}

before-ranged : (l : Line) (r : Lines) → ranged l.event → LinesHold r → LinesHold (before l r)
unfolding LinesHold
before-ranged l (all ls p) h k = (h, k)
before-ranged l (faulty f i) h k = tt

then-ranged : (r : Read Line) (i : ℕ) (k : ℕ → Lines) → ReadHolds (λ (l : Line). ranged l.event) r → ((p : ℕ) → LinesHold (k p)) → LinesHold (line_then r i k)
unfolding ReadHolds LinesHold
then-ranged (got l p) i k h f = before-ranged l (k p) h (f p)
then-ranged (refused g) i k h f = tt

lines-ranged : (bits : List Bool) (n i at : ℕ) → LinesHold (lines_from bits n i at)
unfolding lines_from LinesHold
lines-ranged bits zero i at = tt
lines-ranged bits (suc n) i at =
    then-ranged (line_from (bit_source bits) at) i (λ p. lines_from bits n (suc i) p) (line-ranged (bit_source bits) at) (λ p. lines-ranged bits n (suc i) p)

ended-ranged : (bits : List Bool) (r : Lines) → LinesHold r → AllRanged (ended bits r).lines
unfolding ended LinesHold
ended-ranged bits (all ls p) h = either_way (λ (s : Score). AllRanged s.lines) (filled bits p) h tt
ended-ranged bits (faulty f i) h = tt

score-ranged : (bits : List Bool) → AllRanged (score_of bits).lines
unfolding score_of counted
score-ranged bits = go (read_at bits 0 20)
  where
    go : (g : Option (ℕ × ℕ)) → AllRanged (counted bits g).lines
    go (Some r) = ended-ranged bits (lines_from bits r.0 0 r.1) (lines-ranged bits r.0 0 r.1)
    go None = tt

judged-ranged : (i : ℕ) (ss : List Content) → LinesHold (judged_from i ss)
unfolding judged_from line_content LinesHold
judged-ranged i [] = tt
judged-ranged i (s ∷ ss) =
    then-ranged (line_from (keypad_source (words_of s)) 0) i (λ p. judged_from (suc i) ss) (line-ranged (keypad_source (words_of s)) 0) (λ p. judged-ranged (suc i) ss)

text-ranged : (bytes : List ℕ) → AllRanged (text_of bytes).lines
unfolding text_of LinesHold
text-ranged bytes = go (text-form.lines_from (length bytes) 0 bytes)
  where
    by_lines : (r : Lines) → LinesHold r → AllRanged (judgement r).lines
    by_lines (all ls p) h = h
    by_lines (faulty f i) h = tt

    go : (t : Text) → AllRanged (judged t).lines
    go (lines ss) = by_lines (judged_from 0 ss) (judged-ranged 0 ss)
    go (bad i) = tt

-- ---- at each entrance

single-ranged : (r : LineRead) → ranged r.line.event → AllRanged (single r).lines
single-ranged r h = either_way AllRanged (is_taken r.answer) (h, tt) tt

pub reads-ranged : (d : Entrance) (handed : List ℕ) → AllRanged (reads d handed).lines
reads-ranged stick b = score-ranged (bits_of b)
reads-ranged unit b = single-ranged (unit_of (bits_of b)) (unit-ranged (bits_of b))
reads-ranged keypad b = single-ranged (keypad_line b) (keypad-ranged b)
reads-ranged text b = text-ranged b
