-- The cursor passes exactly the lines of an accepted score. Assumes nothing.
use Prim.Native.Nat.{ℕ, zero, suc, ◌-◌}
use mathlib.Core.Path.{◌≡◌, refl, sym, ap, ap₂, ◌∙◌, subst}
use mathlib.Core.Bool.{Bool, true, false, cond, true≢false}
use mathlib.Core.List.{List, [], ◌∷◌}
use native.Mathlib.Omega.{arith}
use borrow.Author.Tests.{eqb-true}
use borrow.Table.Steps.{cases}
use lib.Dec.{eqb}
use lib.ListN.{length}
use Rattle.base_answer.specs.declared.Answer.{Answer}
use Rattle.base_answer.specs.declared.Answer.TheVariants.{Taken, CutShort, NotCarried, LeftOver}
use Rattle.base_answer.specs.Numbers.{is_taken}
use Rattle.base_bitstream.specs.Fields.{read_at}
use Rattle.base_bitstream.specs.Filling.{filled}
use Rattle.std.specs.Prelude.{Option, Some, None}
use Rattle.base_formats.specs.Format.{bit_source, Read, got, refused}
use Rattle.score_line.specs.Reading.{line_from, line_at, line_read, refused_line, answer_of}
use Rattle.score_line.specs.declared.Line.{Line}
use Rattle.score_line.specs.declared.LineRead.{LineRead}
use Rattle.score_reader.specs.Score.{Lines, all, faulty, before, line_then, lines_from, Score, taken, refused_score, ended, counted, score_of, whole_line, opened, unit_of}
use Rattle.score_reader.specs.inside.Walk.{first_of, next_of, walked, Ahead}
use Rattle.score_reader.specs.declared.Cursor.{Cursor}
use Rattle.score_reader.proofs.Readers.{fault-not-taken, whole-refused}

-- ---- an accepted score's parts

-- what an accepted score holds: its number of lines, the lines, and a filled end
pub record Accepted (bits : List Bool) (ls : List Line) : Type 0 where
  pub count : ℕ
  pub start : ℕ
  pub end : ℕ
  pub counted-there : read_at bits 0 20 ≡ Some (count, start)
  pub lines-there : lines_from bits count 0 start ≡ all ls end
  pub filled-there : filled bits end ≡ true

other : (a : Answer) (i : ℕ) (ls : List Line) → refused_score a i ≡ taken ls → is_taken a ≡ false → ⊥
other a i ls e f = true≢false (ap (λ (s : Score). is_taken s.answer) (sym e) ∙ f)

end_back : (bits : List Bool) (n p : ℕ) (ls : List Line) (x : Lines) → read_at bits 0 20 ≡ Some (n, p) → lines_from bits n 0 p ≡ x → ended bits x ≡ taken ls → Accepted bits ls
unfolding ended
end_back bits n p ls (faulty f i) g h e = absurd (other (answer_of f) i ls e (fault-not-taken f))
end_back bits n p ls (all ms q) g h e =
    cases (filled bits q)
    (λ f. record { count = n; start = p; end = q; counted-there = g; lines-there = h ∙ ap (λ (s : Score). all s.lines q) (rw f at e); filled-there = f })
    (λ f. absurd (other LeftOver 0 ls (rw f at e) refl))

count-back : (bits : List Bool) (ls : List Line) (g : Option (ℕ × ℕ)) → read_at bits 0 20 ≡ g → counted bits g ≡ taken ls → Accepted bits ls
unfolding counted
count-back bits ls (Some r) h e = end_back bits r.0 r.1 ls (lines_from bits r.0 0 r.1) h refl e
count-back bits ls None h e = absurd (other CutShort 0 ls e refl)

pub accepted : (bits : List Bool) (ls : List Line) → score_of bits ≡ taken ls → Accepted bits ls
unfolding score_of
accepted bits ls e = count-back bits ls (read_at bits 0 20) refl e

-- and back
pub accepts : (bits : List Bool) (ls : List Line) → Accepted bits ls → score_of bits ≡ taken ls
unfolding score_of counted ended
accepts bits ls a = ap (counted bits) a.counted-there ∙ ap (ended bits) a.lines-there ∙ rw a.filled-there

-- an answer 0 has the lines that the definition gives
pub answered : (bits : List Bool) → (score_of bits).answer ≡ Taken → score_of bits ≡ taken (score_of bits).lines
unfolding score_of counted ended
answered bits e = count (read_at bits 0 20) e
  where
    no_more : (a : Answer) (i : ℕ) → is_taken a ≡ false → (refused_score a i).answer ≡ Taken → refused_score a i ≡ taken []
    no_more a i f k = absurd (true≢false (ap is_taken (sym k) ∙ f))

    filling : (b : Bool) (ms : List Line) → (cond b (taken ms) (refused_score LeftOver 0)).answer ≡ Taken → cond b (taken ms) (refused_score LeftOver 0) ≡ taken (cond b (taken ms) (refused_score LeftOver 0)).lines
    filling true ms k = refl
    filling false ms k = no_more LeftOver 0 refl k

    end : (x : Lines) → (ended bits x).answer ≡ Taken → ended bits x ≡ taken (ended bits x).lines
    end (all ms q) k = filling (filled bits q) ms k
    end (faulty f i) k = no_more (answer_of f) i (fault-not-taken f) k

    count : (g : Option (ℕ × ℕ)) → (counted bits g).answer ≡ Taken → counted bits g ≡ taken (counted bits g).lines
    count (Some r) k = end (lines_from bits r.0 0 r.1) k
    count None k = no_more CutShort 0 refl k

-- ---- an accepted unit's parts

pub record Unit-accepted (bits : List Bool) (x : Line) (p : ℕ) : Type 0 where
  pub start : ℕ
  pub opened-there : read_at bits 0 2 ≡ Some (0, start)
  pub line-there : line_from (bit_source bits) start ≡ got x p
  pub filled-there : filled bits p ≡ true

no_line : (a : Answer) (x : Line) (p : ℕ) → is_taken a ≡ false → refused_line a ≡ line_read (got x p) → ⊥
unfolding refused_line line_read
no_line a x p f e = true≢false (ap (λ (r : LineRead). is_taken r.answer) (sym e) ∙ f)

same_line : (x y : Line) (p q : ℕ) → line_read (got x p) ≡ line_read (got y q) → got x p ≡ got y q
unfolding line_read
same_line x y p q e = ap₂ (λ (l : Line) (n : ℕ). got l n) (ap (λ (r : LineRead). r.line) e) (ap (λ (r : LineRead). r.next) e)

module _ (bits : List Bool) (x : Line) (p : ℕ) where
  line-part : (start : ℕ) (r : Read Line) → read_at bits 0 2 ≡ Some (0, start) → line_from (bit_source bits) start ≡ r → whole_line bits (line_read r) ≡ line_read (got x p) → Unit-accepted bits x p
  unfolding whole_line line_read
  line-part start (got y q) f g e =
      cases (filled bits q)
      (λ h.
      let s = same_line y x q p (rw h at e) in
      let k : q ≡ p = cc in
      record { start = start; opened-there = f; line-there = g ∙ s; filled-there = cc })
      (λ h. absurd (no_line LeftOver x p refl (rw h at e)))
  line-part start (refused a) f g e =
      let n = fault-not-taken a in
      absurd (no_line (answer_of a) x p n (whole-refused bits (refused_line (answer_of a)) refl (unfold refused_line in n) ∙ e))

  open-part : (g : Option (ℕ × ℕ)) → read_at bits 0 2 ≡ g → opened bits g ≡ line_read (got x p) → Unit-accepted bits x p
  unfolding opened line_at
  open-part (Some r) f e =
      cases (eqb r.0 0) (λ g. line-part r.1 (line_from (bit_source bits) r.1) (f ∙ ap (λ (k : ℕ). Some (k, r.1)) (eqb-true r.0 0 g)) refl (rw g at e))
      (λ g. absurd (no_line NotCarried x p refl (rw g at e)))
  open-part None f e = absurd (no_line CutShort x p refl e)

  pub unit-accepted : unit_of bits ≡ line_read (got x p) → Unit-accepted bits x p
  unfolding unit_of
  unit-accepted e = open-part (read_at bits 0 2) refl e

-- ---- the cursor

-- before the first line, all lines of an accepted score lie ahead
pub ahead-first : (bits : List Bool) (ls : List Line) → score_of bits ≡ taken ls → Ahead bits (first_of bits) ls
unfolding first_of
ahead-first bits ls e =
    let a = accepted bits ls e in
    record { number = 0; end = a.end; are = rw a.counted-there a.lines-there }

-- what a reading of at least one line is
pub record More (bits : List Bool) (n i at : ℕ) (ls : List Line) (end : ℕ) : Type 0 where
  pub line : Line
  pub next : ℕ
  pub others : List Line
  pub line-there : line_from (bit_source bits) at ≡ got line next
  pub others-there : lines_from bits n (suc i) next ≡ all others end
  pub lines : ls ≡ line ∷ others

before_back : (l : Line) (x : Lines) (ls : List Line) (q : ℕ) → before l x ≡ all ls q → (ms : List Line) × (x ≡ all ms q) × (ls ≡ l ∷ ms)
before_back l (all ms p) ls q e = let a : p ≡ q = cc in (ms, ap (all ms) a, cc)
before_back l (faulty f i) ls q e = absurd (let z : ◌≡◌ {A = ℕ} 0 1 = cc in omega arith)

pub lines-back : (bits : List Bool) (n i at : ℕ) (ls : List Line) (q : ℕ) → lines_from bits (suc n) i at ≡ all ls q → More bits n i at ls q
unfolding lines_from
lines-back bits n i at ls q e = go (line_from (bit_source bits) at) refl e
  where
    go : (x : Read Line) → line_from (bit_source bits) at ≡ x → line_then x i (λ p. lines_from bits n (suc i) p) ≡ all ls q → More bits n i at ls q
    go (got l p) h k =
        let b = before_back l (lines_from bits n (suc i) p) ls q k in
        record { line = l; next = p; others = b.0; line-there = h; others-there = b.1; lines = b.2 }
    go (refused f) h k = absurd (let z : ◌≡◌ {A = ℕ} 0 1 = cc in omega arith)

-- as many lines are ahead as the cursor says
lines-length : (bits : List Bool) (n i at : ℕ) (ls : List Line) (q : ℕ) → lines_from bits n i at ≡ all ls q → length ls ≡ n
unfolding lines_from
lines-length bits zero i at ls q e = let k : ls ≡ [] = cc in ap length k
lines-length bits (suc n) i at ls q e =
    let m = lines-back bits n i at ls q e in
    ap length m.lines ∙ ap suc (lines-length bits n (suc i) m.next m.others q m.others-there)

pub ahead-left : (bits : List Bool) (c : Cursor) (ls : List Line) → Ahead bits c ls → length ls ≡ c.left
ahead-left bits c ls a = lines-length bits c.left a.number c.at ls a.end a.are

-- the next line is the first of them, and the others lie ahead of the cursor past it
pub record Passed (bits : List Bool) (c : Cursor) (l : Line) (ls : List Line) : Type 0 where
  pub answer : (next_of bits c).answer ≡ Taken
  pub line : (next_of bits c).line ≡ l
  pub left : (next_of bits c).rest.left ≡ c.left - 1
  pub ahead : Ahead bits (next_of bits c).rest ls

pass : (bits : List Bool) (n i at : ℕ) (l : Line) (ls : List Line) (q : ℕ) → lines_from bits (suc n) i at ≡ all (l ∷ ls) q → Passed bits (record { at = at; left = suc n }) l ls
unfolding next_of line_at line_read
pass bits n i at l ls q e =
    let m = lines-back bits n i at (l ∷ ls) q e in
    let h : l ≡ m.line = cc in
    let t : ls ≡ m.others = cc in
    let k : suc n - 1 ≡ n = omega arith in
    record {
      answer = rw m.line-there;
      line = rw m.line-there (sym h);
      left = refl;
      ahead = record {
        number = suc i;
        end = q;
        are = rw (m.line-there, k) (m.others-there ∙ ap (λ (x : List Line). all x q) (sym t));
      };
    }

pub ahead-next : (bits : List Bool) (c : Cursor) (l : Line) (ls : List Line) → Ahead bits c (l ∷ ls) → Passed bits c l ls
ahead-next bits c l ls a = go c.left refl a.are
  where
    go : (n : ℕ) → c.left ≡ n → lines_from bits c.left a.number c.at ≡ all (l ∷ ls) a.end → Passed bits c l ls
    go zero h e = absurd (let k = ahead-left bits c (l ∷ ls) a in omega arith)
    go (suc n) h e =
        subst (λ (x : ℕ). Passed bits (record { at = c.at; left = x }) l ls) (sym h)
        (pass bits n a.number c.at l ls a.end (ap (λ (x : ℕ). lines_from bits x a.number c.at) (sym h) ∙ e))

-- ---- the lines that calls of `next` pass

walk : (bits : List Bool) (n : ℕ) (c : Cursor) (ls : List Line) → length ls ≡ n → Ahead bits c ls → walked bits n c ≡ ls
unfolding walked
walk bits zero c [] h a = refl
walk bits zero c (l ∷ ls) h a = absurd (omega arith)
walk bits (suc n) c [] h a = absurd (omega arith)
walk bits (suc n) c (l ∷ ls) h a =
    let p = ahead-next bits c l ls a in
    cc (p.line, walk bits n (next_of bits c).rest ls (omega arith) p.ahead)

-- walking the cursor over an accepted score gives exactly its lines
pub walk-all : (bits : List Bool) → (score_of bits).answer ≡ Taken → walked bits (first_of bits).left (first_of bits) ≡ (score_of bits).lines
walk-all bits e =
    let a = ahead-first bits (score_of bits).lines (answered bits e) in
    walk bits (first_of bits).left (first_of bits) (score_of bits).lines (ahead-left bits (first_of bits) (score_of bits).lines a) a
