-- Line by line from position 0 on, the lines of a text that is taken are passed, and no others. Assumes nothing.
use Prim.Native.Nat.{ℕ, zero, suc}
use mathlib.Core.Path.{◌≡◌, refl, sym, ap, ap₂, ◌∙◌}
use mathlib.Core.Bool.{Bool, true, false, cond, true≢false}
use mathlib.Core.List.{List, [], ◌∷◌}
use native.Mathlib.Omega.{arith}
use lib.Dec.{leb}
use lib.ListN.{length, drop}
use Rattle.base_answer.specs.Numbers.{is_taken}
use Rattle.base_answer.specs.declared.Answer.{Answer}
use Rattle.base_answer.specs.declared.Answer.TheVariants.{Taken, BadText}
use Rattle.text_numerals.specs.inside.Reading.{Read, got, refused}
use Rattle.score_line.specs.Reading.{answer_of, line_read}
use Rattle.score_line.specs.declared.Line.{Line}
use Rattle.score_line.specs.declared.LineRead.{LineRead}
use Rattle.score_reader.specs.Score.{Lines, all, faulty, before, line_then, Score, taken, refused_score}
use Rattle.score_reader.proofs.Readers.{fault-not-taken}
use Rattle.text_format.specs.Content.{Content, line_content, most_lines, judged_from, judgement}
use Rattle.text_format.specs.inside.Reading.{line_from, Text, lines, bad, then_lines, lines_from, judged, text_of}
use Rattle.text_format.specs.inside.Reading as text
use Rattle.std.specs.Prelude.{Option, Some}
use Rattle.text_event_reader.specs.Results.{position, line_told, step_of}
use Rattle.text_reader.specs.Texts.{line_at, walked, Ahead}
use Rattle.text_reader.proofs.LineLoop.{standing}
use Rattle.base_formats.specs.Format as fields

-- ---- a text that is taken, and one that is not

-- a refused score is not taken
not_taken : (a : Answer) (i : ℕ) → is_taken a ≡ false → (refused_score a i).answer ≡ Taken → ⊥
not_taken a i f e = true≢false (ap is_taken (sym e) ∙ f)

judgement-taken : (x : Lines) → (judgement x).answer ≡ Taken → judgement x ≡ taken (judgement x).lines
judgement-taken (all ls p) e = refl
judgement-taken (faulty f i) e = absurd (not_taken (answer_of f) i (fault-not-taken f) e)

-- an answer 0 has the lines that the definition gives
pub answered : (s : List ℕ) → (text_of s).answer ≡ Taken → text_of s ≡ taken (text_of s).lines
unfolding text_of
answered s e = go (lines_from (length s) 0 s) e
  where
    go : (t : Text) → (judged t).answer ≡ Taken → judged t ≡ taken (judged t).lines
    go (lines ss) e = judgement-taken (judged_from 0 ss) e
    go (bad i) e = absurd (not_taken BadText i refl e)

-- any other has none
pub no_lines : (s : List ℕ) → is_taken (text_of s).answer ≡ false → (text_of s).lines ≡ []
unfolding text_of
no_lines s e = go (lines_from (length s) 0 s) e
  where
    by_lines : (x : Lines) → is_taken (judgement x).answer ≡ false → (judgement x).lines ≡ []
    by_lines (all ls p) e = absurd (true≢false e)
    by_lines (faulty f i) e = refl

    go : (t : Text) → is_taken (judged t).answer ≡ false → (judged t).lines ≡ []
    go (lines ss) e = by_lines (judged_from 0 ss) e
    go (bad i) e = refl

-- before the first line, all lines lie ahead
pub ahead-first : (s : List ℕ) (ls : List Line) → text_of s ≡ taken ls → Ahead s 0 ls
unfolding text_of
ahead-first s ls e = go (lines_from (length s) 0 s) refl e
  where
    by_lines : (ss : List Content) → lines_from (length s) 0 s ≡ lines ss → (x : Lines) → judged_from 0 ss ≡ x → judgement x ≡ taken ls → Ahead s 0 ls
    by_lines ss f (all ms p) g e = record { bound = length s; number = 0; content = ss; end = p; there = f; are = g ∙ ap (λ (l : List Line). all l p) (ap (λ (x : Score). x.lines) e) }
    by_lines ss f (faulty c i) g e = absurd (not_taken (answer_of c) i (fault-not-taken c) (ap (λ (x : Score). x.answer) e))

    go : (t : Text) → lines_from (length s) 0 s ≡ t → judged t ≡ taken ls → Ahead s 0 ls
    go (lines ss) f e = by_lines ss f (judged_from 0 ss) refl e
    go (bad i) f e = absurd (not_taken BadText i refl (ap (λ (x : Score). x.answer) e))

-- ---- one line

-- the first of some lines that are all in order
record Judged-first (i : ℕ) (ss : List Content) (l : Line) (ls : List Line) (end : ℕ) : Type 0 where
  first : Content
  others : List Content
  next : ℕ
  are : ss ≡ first ∷ others
  line : line_content first ≡ fields.got l next
  judged-so : judged_from (suc i) others ≡ all ls end

before_back : (m : Line) (x : Lines) (l : Line) (ls : List Line) (end : ℕ) → before m x ≡ all (l ∷ ls) end → (m ≡ l) × (x ≡ all ls end)
before_back m (all ms p) l ls end e = let a : ms ≡ ls = cc in let b : p ≡ end = cc in (cc, ap₂ all a b)
before_back m (faulty f i) l ls end e = absurd (let z : ◌≡◌ {A = ℕ} 0 1 = cc in omega arith)

judged-first : (i : ℕ) (ss : List Content) (l : Line) (ls : List Line) (end : ℕ) → judged_from i ss ≡ all (l ∷ ls) end → Judged-first i ss l ls end
unfolding judged_from
judged-first i [] l ls end e = absurd (let z : ◌≡◌ {A = ℕ} 0 1 = cc in omega arith)
judged-first i (sd ∷ ss) l ls end e = go (line_content sd) refl e
  where
    go : (x : fields.Read Line) → line_content sd ≡ x → line_then x i (λ p. judged_from (suc i) ss) ≡ all (l ∷ ls) end → Judged-first i (sd ∷ ss) l ls end
    go (fields.got m p) f e =
        let b = before_back m (judged_from (suc i) ss) l ls end e in
        record { first = sd; others = ss; next = p; are = refl; line = f ∙ ap (λ (y : Line). fields.got y p) b.0; judged-so = b.1 }
    go (fields.refused c) f e = absurd (let z : ◌≡◌ {A = ℕ} 0 1 = cc in omega arith)

-- the first of some lines that stand there
record Read-first (n i : ℕ) (bs : List ℕ) (sd : Content) (ss : List Content) : Type 0 where
  bound : ℕ
  rest : List ℕ
  line : line_from bs ≡ got sd rest
  others : lines_from bound (suc i) rest ≡ lines ss

content-back : (x : Content) (t : Text) (sd : Content) (ss : List Content) → text.before x t ≡ lines (sd ∷ ss) → (x ≡ sd) × (t ≡ lines ss)
content-back x (lines ts) sd ss e = let a : ts ≡ ss = cc in (cc, ap lines a)
content-back x (bad i) sd ss e = absurd (let z : ◌≡◌ {A = ℕ} 0 1 = cc in omega arith)

read_first : (n i : ℕ) (bs : List ℕ) (sd : Content) (ss : List Content) → lines_from n i bs ≡ lines (sd ∷ ss) → Read-first n i bs sd ss
unfolding lines_from
read_first zero i [] sd ss e = absurd (let z : ◌≡◌ {A = ℕ} 0 1 = cc in omega arith)
read_first zero i (b ∷ bs) sd ss e = absurd (let z : ◌≡◌ {A = ℕ} 0 1 = cc in omega arith)
read_first (suc n) i [] sd ss e = absurd (let z : ◌≡◌ {A = ℕ} 0 1 = cc in omega arith)
read_first (suc n) i (b ∷ bs) sd ss e = by_number (leb most_lines i) e
  where
    by-line : (x : Read Content) → line_from (b ∷ bs) ≡ x → then_lines x i (λ r. lines_from n (suc i) r) ≡ lines (sd ∷ ss) → Read-first (suc n) i (b ∷ bs) sd ss
    by-line (got x r) f e =
        let k = content-back x (lines_from n (suc i) r) sd ss e in
        record { bound = n; rest = r; line = f ∙ ap (λ (y : Content). got y r) k.0; others = k.1 }
    by-line refused f e = absurd (let z : ◌≡◌ {A = ℕ} 0 1 = cc in omega arith)

    by_number : (t : Bool) → cond t (bad i) (then_lines (line_from (b ∷ bs)) i (λ r. lines_from n (suc i) r)) ≡ lines (sd ∷ ss) → Read-first (suc n) i (b ∷ bs) sd ss
    by_number true e = absurd (let z : ◌≡◌ {A = ℕ} 0 1 = cc in omega arith)
    by_number false e = by-line (line_from (b ∷ bs)) refl e

-- the next line is the first of those ahead, and the others lie ahead of the position past it
pub record Passed (s : List ℕ) (at : ℕ) (l : Line) (ls : List Line) : Type 0 where
  pub stands : line_at s at ≡ Some (step_of (line_at s at))
  pub answer : (step_of (line_at s at)).0.answer ≡ Taken
  pub line : (step_of (line_at s at)).0.line ≡ l
  pub ahead : Ahead s (step_of (line_at s at)).1 ls

pub ahead-next : (s : List ℕ) (at : ℕ) (l : Line) (ls : List Line) → Ahead s at (l ∷ ls) → Passed s at l ls
unfolding line_told line_read
ahead-next s at l ls a =
    let j = judged-first a.number a.content l ls a.end a.are in
    let r = read_first a.bound a.number (drop at s) j.first j.others (a.there ∙ ap lines j.are) in
    let e : line_at s at ≡ Some (line_read (line_content j.first), position s r.rest) = ap (line_told s) r.line in
    let t = standing s at e in
    let q : r.rest ≡ drop (step_of (line_at s at)).1 s = rest-is (sym r.line ∙ t.there) ∙ ap (λ (o : Option (LineRead × ℕ)). drop (step_of o).1 s) (sym e) in
    let w : (step_of (line_at s at)).0 ≡ line_read (fields.got l j.next) = ap (λ (o : Option (LineRead × ℕ)). (step_of o).0) e ∙ ap line_read j.line in
    record {
      stands = e ∙ ap (λ (o : Option (LineRead × ℕ)). Some (step_of o)) (sym e);
      answer = ap (λ (x : LineRead). x.answer) w;
      line = ap (λ (x : LineRead). x.line) w;
      ahead = record { bound = r.bound; number = suc a.number; content = j.others; end = a.end; there = ap (lines_from r.bound (suc a.number)) (sym q) ∙ r.others; are = j.judged-so };
    }
  where
    rest-is : {x y : Content} {u v : List ℕ} → got x u ≡ got y v → u ≡ v
    rest-is e = cc

-- n steps pass the n lines that lie ahead
walk : (s : List ℕ) (n at : ℕ) (ls : List Line) → length ls ≡ n → Ahead s at ls → walked s n at ≡ ls
unfolding walked
walk s zero at [] h a = refl
walk s zero at (l ∷ ls) h a = absurd (omega arith)
walk s (suc n) at [] h a = absurd (omega arith)
walk s (suc n) at (l ∷ ls) h a =
    let p = ahead-next s at l ls a in
    ap₂ (λ (x : Line) (y : List Line). x ∷ y) p.line (walk s n (step_of (line_at s at)).1 ls (omega arith) p.ahead)

-- walking over a text that is taken gives exactly its lines
pub walk-all : (s : List ℕ) → (text_of s).answer ≡ Taken → walked s (length (text_of s).lines) 0 ≡ (text_of s).lines
walk-all s e = walk s (length (text_of s).lines) 0 (text_of s).lines refl (ahead-first s (text_of s).lines (answered s e))
