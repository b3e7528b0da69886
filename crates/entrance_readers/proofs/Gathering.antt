-- What is handed over, gathered line by line by any cursor.
use mathlib.Core.Path.{◌≡◌, refl, sym, ap, ◌∙◌, subst, subst⁻¹}
use mathlib.Core.Bool.{Bool, true, false, true≢false, cond}
use mathlib.Core.List.{List, [], ◌∷◌}
use Prim.Native.Nat.{ℕ, suc, ◌+◌, ◌≤◌, ◌<◌, min}
use native.Mathlib.Omega.{arith}
use lib.ListN.{length, take, drop, get_or, set, replicate, length-take, length-replicate}
use lib.Seq.{drop-cons, take-suc}
use Rattle.base_laws.proofs.Lists.{take_min}
use Rattle.base_answer.specs.Numbers.{is_taken}
use Rattle.base_answer.specs.declared.Answer.{Answer}
use Rattle.base_answer.specs.declared.Answer.TheVariants as answer
use Rattle.base_formats.specs.declared.Fault.{Fault}
use Rattle.score_line.specs.Reading.{answer_of}
use Rattle.score_line.specs.declared.Line.{Line}
use Rattle.score_line.specs.declared.LineRead.{LineRead}
use Rattle.base_bitstream.specs.Fields.{read_at}
use Rattle.base_bitstream.specs.Filling.{filled}
use Rattle.std.specs.Prelude.{Option, Some, None}
use Rattle.score_reader.specs.Score.{Score, Lines, all, faulty, lines_from, taken, refused_score, counted, ended, score_of}
use Rattle.score_reader.specs.inside.Walk.{score_read_of, first_of, next_of, Ahead}
use Rattle.score_reader.specs.declared.Cursor.{Cursor}
use Rattle.score_reader.specs.declared.Step.{Step}
use Rattle.score_reader.specs.declared.ScoreRead.{ScoreRead}
use Rattle.score_reader.proofs.Readers.{fault-not-taken}
use Rattle.score_reader.proofs.Walk.{ahead-first, ahead-left, ahead-next}
use Rattle.text_format.specs.inside.Reading.{Text, lines, bad, lines_from as text-from, judged, text_of, line_from}
use Rattle.text_format.specs.Content.{judged_from, judgement}
use Rattle.std.specs.Prelude.{Option, Some}
use Rattle.std.specs.Option.{IsSome, is_some}
use Rattle.text_event_reader.specs.Results.{line_told, step_of}
use Rattle.text_reader.specs.Texts.{text_told, Ahead as AheadText}
use Rattle.text_reader.specs.declared.TextRead.{TextRead}
use Rattle.text_reader.proofs.Walk.{ahead-first as text-first, ahead-next as text-next}
use Rattle.player_model.specs.Lists.{over}
use Rattle.player_model.specs.Calls.{single}
use Rattle.player_model.proofs.Lists.{cond-false}
use Rattle.player_model.proofs.Loops.{over-set}
use Rattle.entrance_readers.specs.Entrances.{most_lines_read, entrance_read_of}
use Rattle.score_line.specs.Reading.{blank_line}
use Rattle.entrance_readers.specs.declared.EntranceRead.{EntranceRead}

-- the places before any line
abbrev pub blank : List Line
blank = replicate most_lines_read blank_line

-- a reading is the lines, or a fault and no lines
pub data Told : Score → Type 0 where
  all_read : (ls : List Line) → Told (taken ls)
  not-read : (a : Answer) (i : ℕ) → is_taken a ≡ false → Told (refused_score a i)

fault-told : (f : Fault) (i : ℕ) → Told (refused_score (answer_of f) i)
fault-told f i = not-read (answer_of f) i (fault-not-taken f)

pub score-told : (bits : List Bool) → Told (score_of bits)
unfolding score_of counted ended
score-told bits = go (read_at bits 0 20)
  where
    by-fill : (b : Bool) (ls : List Line) → Told (cond b (taken ls) (refused_score answer.LeftOver 0))
    by-fill true ls = all_read ls
    by-fill false ls = not-read answer.LeftOver 0 refl

    by_lines : (x : Lines) → Told (ended bits x)
    by_lines (all ls p) = by-fill (filled bits p) ls
    by_lines (faulty f i) = fault-told f i

    go : (g : Option (ℕ × ℕ)) → Told (counted bits g)
    go (Some r) = by_lines (lines_from bits r.0 0 r.1)
    go None = not-read answer.CutShort 0 refl

pub text-told : (bytes : List ℕ) → Told (text_of bytes)
unfolding text_of
text-told bytes = go (text-from (length bytes) 0 bytes)
  where
    by_lines : (x : Lines) → Told (judgement x)
    by_lines (all ls p) = all_read ls
    by_lines (faulty f i) = fault-told f i

    go : (t : Text) → Told (judged t)
    go (lines ss) = by_lines (judged_from 0 ss)
    go (bad i) = not-read answer.BadText i refl

told-lines : (s : Score) → Told s → is_taken s.answer ≡ true → s ≡ taken s.lines
told-lines s (all_read ls) t = refl
told-lines s (not-read a i e) t = absurd (true≢false (sym t ∙ e))

told_none : (s : Score) → Told s → is_taken s.answer ≡ false → s ≡ refused_score s.answer s.line
told_none s (all_read ls) t = absurd (true≢false t)
told_none s (not-read a i e) t = refl

-- a step of a cursor: where lines lie ahead it gives the first of them, and the others lie ahead of the cursor past it
abbrev pub Steps : {C : Type 0} → (C → List Line → Type 0) → C → Line → C → Type 0
Steps Ahead c x d = (l : Line) (ls : List Line) → Ahead c (l ∷ ls) → (x ≡ l) × Ahead d ls

module _ {C : Type 0} (Ahead : C → List Line → Type 0) (ls : List Line) (m : ℕ) where
  -- a loop up to m: the first i lines are gathered, and the others lie ahead of the cursor
  pub record Gathered (a : List Line) (c : C) (i : ℕ) : Type 0 where
    pub most : m ≡ min (length ls) most_lines_read
    pub small : i ≤ m
    pub here : a ≡ over (take i ls) blank
    pub ahead : Ahead c (drop i ls)

  pub gather_none : m ≡ min (length ls) most_lines_read → (c : C) → Ahead c ls → (l : Line) → l ≡ blank_line → Gathered (replicate most_lines_read l) c 0
  gather_none e c h l q = record { most = e; small = omega arith; here = ap (replicate most_lines_read) q; ahead = h }

  pub gather-next : (a : List Line) (c : C) (i : ℕ) → i < m → Gathered a c i → (x : Line) (d : C) → Steps Ahead c x d → Gathered (set a i x) d (i + 1)
  gather-next a c i h g x d f =
      let short : i < length ls = omega (arith, h, g.most) in
      let n = f (get_or ls i blank_line) (drop (suc i) ls) (subst (Ahead c) (drop-cons ls i blank_line short) g.ahead) in
      let size : length (take i ls) ≡ i = length-take i ls ∙ omega (arith, short) in
      let wide : length blank ≡ most_lines_read = length-replicate most_lines_read blank_line in
      let one : suc i ≡ i + 1 = omega arith in
      record {
        most = g.most;
        small = omega arith;
        here =
            (λ j. set (g.here j) (sym size j) (n.0 j))
            ∙ over-set (take i ls) blank (get_or ls i blank_line) (omega (arith, size, wide, h, g.most))
            ∙ ap (λ (x : List Line). over x blank) (sym (take-suc ls i blank_line short) ∙ ap (λ (x : ℕ). take x ls) one);
        ahead = subst (λ (x : ℕ). Ahead d (drop x ls)) one n.1;
      }

-- where the loop ends: at most 65 lines
fewer : (ls : List Line) → take (min (length ls) most_lines_read) ls ≡ take most_lines_read ls
fewer ls = let e : min (length ls) most_lines_read ≡ min most_lines_read (length ls) = omega arith in
    ap (λ (x : ℕ). take x ls) e ∙ take_min ls most_lines_read (length ls) refl

pub gather-end : {C : Type 0} (Ahead : C → List Line → Type 0) (s : Score) → Told s → is_taken s.answer ≡ true
    → (m : ℕ) (a : List Line) (c : C) (i : ℕ) → m ≤ i → Gathered Ahead s.lines m a c i
    → record { timed = true; answer = answer.Taken; line = 0; lines = a; count = m } ≡ entrance_read_of true s
unfolding entrance_read_of
gather-end Ahead s t u m a c i h g =
    let whole = told-lines s t u in
    let e : i ≡ min (length s.lines) most_lines_read = omega (arith, g.most, g.small) in
    let first : take i s.lines ≡ take most_lines_read s.lines = ap (λ (x : ℕ). take x s.lines) e ∙ fewer s.lines in
    let all : m ≡ min (length s.lines) most_lines_read = omega (arith, h, g.most, g.small) in
    let size : m ≡ length (take most_lines_read s.lines) = all ∙ sym (length-take most_lines_read s.lines ∙ omega arith) in
    λ j. record {
      timed = true;
      answer = (sym whole j).answer;
      line = (sym whole j).line;
      lines = (g.here ∙ ap (λ (x : List Line). over x blank) first) j;
      count = size j;
    }

-- a score that was read whole: before its first line, and past each
pub score-start : (bits : List Bool) → is_taken (score_of bits).answer ≡ true → (c : Cursor) → c ≡ first_of bits → (m : ℕ) → m ≡ min c.left most_lines_read
    → (l : Line) → l ≡ blank_line → Gathered (Ahead bits) (score_of bits).lines m (replicate most_lines_read l) c 0
score-start bits t c e m k l q =
    let ls = (score_of bits).lines in
    let h = subst⁻¹ (λ (x : Cursor). Ahead bits x ls) e (ahead-first bits ls (told-lines (score_of bits) (score-told bits) t)) in
    gather_none (Ahead bits) ls m (k ∙ ap (λ (x : ℕ). min x most_lines_read) (sym (ahead-left bits c ls h))) c h l q

pub score-steps : (bits : List Bool) (c : Cursor) (st : Step) → st ≡ next_of bits c → Steps (Ahead bits) c st.line st.rest
score-steps bits c st e l ls h =
    let p = ahead-next bits c l ls h in
    (ap (λ (x : Step). x.line) e ∙ p.line, subst⁻¹ (λ (x : Step). Ahead bits x.rest ls) e p.ahead)

-- a text that was read whole, likewise
pub text-start : (bytes : List ℕ) → is_taken (text_of bytes).answer ≡ true → (count : ℕ) → count ≡ length (text_of bytes).lines → (m : ℕ) → m ≡ min count most_lines_read
    → (l : Line) → l ≡ blank_line → Gathered (AheadText bytes) (text_of bytes).lines m (replicate most_lines_read l) 0 0
text-start bytes t count e m k l q =
    let ls = (text_of bytes).lines in
    gather_none (AheadText bytes) ls m (k ∙ ap (λ (x : ℕ). min x most_lines_read) e) 0 (text-first bytes ls (told-lines (text_of bytes) (text-told bytes) t)) l q

-- before each of the first m lines, a line stands there
pub text-stands : (bytes : List ℕ) (ls : List Line) (m : ℕ) (a : List Line) (at i : ℕ) → i < m → Gathered (AheadText bytes) ls m a at i
    → {o : Option (LineRead × ℕ)} → o ≡ line_told bytes (line_from (drop at bytes)) → IsSome o
text-stands bytes ls m a at i h g e =
    let short : i < length ls = omega (arith, h, g.most) in
    let p = text-next bytes at (get_or ls i blank_line) (drop (suc i) ls) (subst (AheadText bytes at) (drop-cons ls i blank_line short) g.ahead) in
    ap is_some (e ∙ p.stands)

pub text-steps : (bytes : List ℕ) (at : ℕ) (st : LineRead × ℕ) {o : Option (LineRead × ℕ)} → o ≡ line_told bytes (line_from (drop at bytes)) → o ≡ Some st
    → Steps (AheadText bytes) at st.0.line st.1
text-steps bytes at st e f l ls h =
    let p = text-next bytes at l ls h in
    let s : st ≡ step_of (line_told bytes (line_from (drop at bytes))) = ap step_of (sym f ∙ e) in
    (ap (λ (x : LineRead × ℕ). x.0.line) s ∙ p.line, subst⁻¹ (λ (x : LineRead × ℕ). AheadText bytes x.1 ls) s p.ahead)

-- a fault brings no line
pub refused-handed : (timed : Bool) (a : Answer) (i : ℕ) (l : Line) → l ≡ blank_line
    → record { timed = timed; answer = a; line = i; lines = replicate most_lines_read l; count = 0 } ≡ entrance_read_of timed (refused_score a i)
unfolding entrance_read_of
refused-handed timed a i l q = λ j. record { timed = timed; answer = a; line = i; lines = replicate most_lines_read (q j); count = 0 }

-- what a first reading told, of the whole
module _ (s : Score) (t : Told s) (r : ScoreRead) (e : r ≡ score_read_of s) where
  pub heard-taken : is_taken r.answer ≡ true → is_taken s.answer ≡ true
  heard-taken q = ap (λ (x : ScoreRead). is_taken x.answer) (sym e) ∙ q

  pub heard-refused : is_taken r.answer ≡ false → (h : EntranceRead) → h ≡ entrance_read_of true (refused_score r.answer r.line) → h ≡ entrance_read_of true s
  heard-refused q h k =
      k ∙ ap (λ (x : ScoreRead). entrance_read_of true (refused_score x.answer x.line)) e
      ∙ ap (entrance_read_of true) (sym (told_none s t (ap (λ (x : ScoreRead). is_taken x.answer) (sym e) ∙ q)))

-- what the reading of a text tells is what that of a score tells, and how many lines there are
pub heard-text : (s : Score) (r : TextRead) → r ≡ text_told s → record { answer = r.answer; line = r.line } ≡ score_read_of s
unfolding text_told
heard-text s r e = ap (λ (x : TextRead). record { answer = x.answer; line = x.line }) e

pub counted-text : (s : Score) (r : TextRead) → r ≡ text_told s → r.count ≡ length s.lines
unfolding text_told
counted-text s r e = ap (λ (x : TextRead). x.count) e

-- one line that was read on its own, or none
module _ (r : LineRead) (l : Line) (q : l ≡ blank_line) where
  pub alone-read : (b : Bool) → b ≡ is_taken r.answer → b ≡ true
      → record { timed = false; answer = r.answer; line = 0; lines = set (replicate most_lines_read l) 0 r.line; count = 1 } ≡ entrance_read_of false (single r)
  unfolding entrance_read_of
  alone-read b k t = let e : is_taken r.answer ≡ true = sym k ∙ t in
      λ j. record {
        timed = false;
        answer = r.answer;
        line = 0;
        lines =
            (ap (λ (x : Line). set (replicate most_lines_read x) 0 r.line) q
            ∙ ap (λ (b : Bool). over (take most_lines_read (cond b (r.line ∷ []) [])) blank) (sym e)) j;
        count = length (take most_lines_read (cond (sym e j) (r.line ∷ []) []));
      }

  pub alone-refused : (b : Bool) → b ≡ is_taken r.answer → b ≡ false
      → record { timed = false; answer = r.answer; line = 0; lines = replicate most_lines_read l; count = 0 } ≡ entrance_read_of false (single r)
  alone-refused b k t = let e : is_taken r.answer ≡ false = sym k ∙ t in
      refused-handed false r.answer 0 l q
      ∙ ap (λ (ls : List Line). entrance_read_of false (record { answer = r.answer; line = 0; lines = ls })) (sym (cond-false _ _ e))
