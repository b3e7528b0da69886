-- A whole text: the lines that encode it are judged, or it breaks at the first line that is none. Assumes nothing.
use Prim.Native.Nat.{ℕ, zero, suc, ◌+◌, ◌-◌, ◌≤◌, ◌<◌, zero-le}
use native.Mathlib.Nat.{add-zero, zero-add}
use native.Mathlib.Omega.{arith}
use mathlib.Core.Path.{◌≡◌, refl, sym, ap, ◌∙◌, subst}
use mathlib.Core.Bool.{Bool, true, false, cond}
use mathlib.Core.List.{List, [], ◌∷◌, ◌++◌, map, append_assoc, append-nil}
use borrow.Author.Tests.{le-leb, lt-leb, leb-true, leb-false}
use lib.ListN.{length, length-append}
use lib.Dec.{leb}
use Rattle.base_laws.proofs.Choice.{cond-true, cond-false}
use Rattle.text_numerals.specs.inside.Reading.{Read, got, refused}
use Rattle.text_numerals.proofs.Readings.{not-got}
use Rattle.text_format.specs.Content.{Content, most_lines}
use Rattle.text_format.specs.Form.{TextLine, line_bytes, text_bytes, ValidForm, ValidLines, content_by}
use Rattle.text_format.specs.inside.Reading.{line_from, Text, lines, bad, before, then_lines, lines_from, judged, text_of}
use Rattle.text_format.specs.Claims.{Encodes, NoLine, Breaks, TextRead, TextBroken, Either, encodes, breaks, EveryText, NotBoth, OneBreak, Judged}
use Rattle.text_format.proofs.Lines.{line-complete, line-sound}

-- ---- one line, and the lines behind it

line-got : (n i : ℕ) (bs : List ℕ) {s : Content} {r : List ℕ} → i < most_lines → line_from bs ≡ got s r → lines_from (suc n) i bs ≡ before s (lines_from n (suc i) r)
unfolding lines_from
line-got n i [] h e = not-got e
line-got n i (b ∷ bs) h e = cond-false _ _ (lt-leb most_lines i h) ∙ ap (λ z. then_lines z i (λ r. lines_from n (suc i) r)) e

line_refused : (n i b : ℕ) (bs : List ℕ) → line_from (b ∷ bs) ≡ refused → lines_from n i (b ∷ bs) ≡ bad i
unfolding lines_from
line_refused zero i b bs e = refl
line_refused (suc n) i b bs e = ap (λ z. cond (leb most_lines i) (bad i) (then_lines z i (λ r. lines_from n (suc i) r))) e ∙ same (leb most_lines i)
  where
    same : (t : Bool) → cond t (bad i) (bad i) ≡ bad i
    same true = refl
    same false = refl

one-too-many : (n i b : ℕ) (bs : List ℕ) → most_lines ≤ i → lines_from n i (b ∷ bs) ≡ bad i
unfolding lines_from
one-too-many zero i b bs h = refl
one-too-many (suc n) i b bs h = cond-true _ _ (le-leb most_lines i h)

no_more : (n i : ℕ) → lines_from n i [] ≡ lines []
unfolding lines_from
no_more zero i = refl
no_more (suc n) i = refl

-- ---- lines before a text

unfoldable ahead : List Content → Text → Text
ahead [] t = t
ahead (s ∷ ss) t = before s (ahead ss t)

ahead-lines : (ss : List Content) → ahead ss (lines []) ≡ lines ss
unfolding ahead
ahead-lines [] = refl
ahead-lines (s ∷ ss) = ap (before s) (ahead-lines ss)

ahead-bad : (ss : List Content) (i : ℕ) → ahead ss (bad i) ≡ bad i
unfolding ahead
ahead-bad [] i = refl
ahead-bad (s ∷ ss) i = ap (before s) (ahead-bad ss i)

lines-first : (n i : ℕ) (ws : List TextLine) (bs : List ℕ) → ValidLines ws → i + length ws ≤ most_lines
    → lines_from (length ws + n) i (text_bytes ws ++ bs) ≡ ahead (map content_by ws) (lines_from n (i + length ws) bs)
unfolding text_bytes ValidLines ahead
lines-first n i [] bs l h = λ k. lines_from (zero-add n k) (sym (add-zero i) k) bs
lines-first n i (w ∷ ws) bs l h =
    let m : suc (length ws) + n ≡ suc (length ws + n) = omega arith in
    let j : suc i + length ws ≡ i + suc (length ws) = omega arith in
    let e : line_from ((line_bytes w ++ text_bytes ws) ++ bs) ≡ got (content_by w) (text_bytes ws ++ bs) = rw append_assoc (line-complete w (text_bytes ws ++ bs) l.0) in
    cc (line-got (length ws + n) i _ (omega arith) e, lines-first n (suc i) ws bs l.1 (omega arith))

-- every line has a byte
line-room : (w : TextLine) (bs : List ℕ) → length bs < length (line_bytes w ++ bs)
unfolding line_bytes
line-room w bs = simp length-append (omega arith)

lines-room : (ws : List TextLine) (bs : List ℕ) → length ws ≤ length (text_bytes ws ++ bs)
unfolding text_bytes
lines-room [] bs = zero-le
lines-room (w ∷ ws) bs = let a = lines-room ws bs in rw append_assoc (omega (arith, line-room w (text_bytes ws ++ bs)))

-- ---- the text

-- a text that begins with lines, and goes on with other bytes
text-first : (bytes : List ℕ) (ws : List TextLine) (bs : List ℕ) (t : Text) → text_bytes ws ++ bs ≡ bytes → ValidLines ws → length ws ≤ most_lines
    → ((n : ℕ) → lines_from n (length ws) bs ≡ t) → lines_from (length bytes) 0 bytes ≡ ahead (map content_by ws) t
text-first bytes ws bs t e l h f =
    let r : length ws ≤ length bytes = rw e at (lines-room ws bs) in
    let n = length bytes - length ws in
    let m : length bytes ≡ length ws + n = omega arith in
    cc (lines-first n 0 ws bs l (omega arith), zero-add (length ws), f n)

pub text-lines : (bytes : List ℕ) (ws : List TextLine) → Encodes bytes ws → lines_from (length bytes) 0 bytes ≡ lines (map content_by ws)
text-lines bytes ws s =
    text-first bytes ws [] (lines []) (append-nil (text_bytes ws) ∙ s.encoded) s.valid s.few (λ n. no_more n (length ws)) ∙ ahead-lines (map content_by ws)

pub text-read : TextRead
unfolding text_of
text-read bytes ws s = ap judged (text-lines bytes ws s)

-- lines that are written are read as what they say
pub lines-read : (ws : List TextLine) → ValidLines ws → length ws ≤ most_lines → Judged (text_bytes ws) ws
lines-read ws l h = text-read (text_bytes ws) ws (record { encoded = refl; valid = l; few = h })

-- where no line stands, none is read
none_read : (bs : List ℕ) → NoLine bs → line_from bs ≡ refused
none_read bs h = go (line_from bs) refl
  where
    go : (r : Read Content) → line_from bs ≡ r → r ≡ refused
    go (got s r) e = let f = line-sound bs s r e in absurd (h f.one r f.valid (sym f.encodes))
    go refused e = refl

-- the number of lines is reached, or no line stands there
breaks-here : (n number b : ℕ) (bs : List ℕ) → ((number ≡ most_lines → ⊥) → NoLine (b ∷ bs)) → lines_from n number (b ∷ bs) ≡ bad number
breaks-here n number b bs h = go (leb most_lines number) refl
  where
    go : (t : Bool) → leb most_lines number ≡ t → lines_from n number (b ∷ bs) ≡ bad number
    go true e = one-too-many n number b bs (leb-true most_lines number e)
    go false e =
        let l : number < most_lines = leb-false most_lines number e in
        line_refused n number b bs (none_read (b ∷ bs) (h (λ (z : number ≡ most_lines). omega arith)))

pub text-bad : (bytes : List ℕ) (number : ℕ) → Breaks bytes number → lines_from (length bytes) 0 bytes ≡ bad number
text-bad bytes number b =
    text-first bytes b.before (b.first ∷ b.others) (bad number) b.encoded b.valid (subst (λ (z : ℕ). z ≤ most_lines) (sym b.counted) b.few)
    (λ n. ap (λ (z : ℕ). lines_from n z (b.first ∷ b.others)) b.counted ∙ breaks-here n number b.first b.others b.none)
    ∙ ahead-bad (map content_by b.before) number

pub text-broken : TextBroken
unfolding text_of
text-broken bytes number b = ap judged (text-bad bytes number b)

pub not-both : NotBoth
not-both bytes ws number s b =
    let e = sym (text-lines bytes ws s) ∙ text-bad bytes number b in
    let z : ◌≡◌ {A = ℕ} 0 1 = cc in
    omega arith

pub one-break : OneBreak
one-break bytes n m a b = let e = sym (text-bad bytes n a) ∙ text-bad bytes m b in cc

-- ---- every text

-- behind i lines: lines to the end, or lines and bytes where there is none
data From (i : ℕ) (bs : List ℕ) : Type 0 where
  all : (ws : List TextLine) → text_bytes ws ≡ bs → ValidLines ws → i + length ws ≤ most_lines → From i bs
  some : (ws : List TextLine) (b : ℕ) (cs : List ℕ) → text_bytes ws ++ (b ∷ cs) ≡ bs → ValidLines ws → i + length ws ≤ most_lines
      → ((i + length ws ≡ most_lines → ⊥) → NoLine (b ∷ cs)) → From i bs

one_line : (i : ℕ) (w : TextLine) (bs r : List ℕ) → bs ≡ line_bytes w ++ r → ValidForm w.form → From (suc i) r → From i bs
unfolding text_bytes ValidLines
one_line i w bs r e l (all ws f k h) = all (w ∷ ws) (ap (λ (z : List ℕ). line_bytes w ++ z) f ∙ sym e) (l, k) (omega arith)
one_line i w bs r e l (some ws b cs f k h g) =
    let m : i + suc (length ws) ≡ suc i + length ws = omega arith in
    some (w ∷ ws) b cs (append_assoc (line_bytes w) (text_bytes ws) (b ∷ cs) ∙ ap (λ (z : List ℕ). line_bytes w ++ z) f ∙ sym e) (l, k) (omega arith)
    (λ n. g (λ z. n (m ∙ z)))

no_line : (bs : List ℕ) → line_from bs ≡ refused → NoLine bs
no_line bs e w r l q = not-got (sym e ∙ ap line_from (sym q) ∙ line-complete w r l)

-- at bytes behind i lines, if shorter ones are known
abbrev Shorter : ℕ → Type 0
Shorter n = (i : ℕ) (bs : List ℕ) → length bs < n → i ≤ most_lines → From i bs

at-line : (i : ℕ) (bs : List ℕ) (r : Read Content) → line_from bs ≡ r → i < most_lines → Shorter (length bs) → (NoLine bs → From i bs) → From i bs
at-line i bs (got s r) e k rec none =
    let f = line-sound bs s r e in
    let room = line-room f.one r in
    let long : length bs ≡ length (line_bytes f.one ++ r) = ap length f.encodes in
    one_line i f.one bs r f.encodes f.valid (rec (suc i) r (omega arith) k)
at-line i bs refused e k rec none = none (no_line bs e)

at-bytes : (i : ℕ) (bs : List ℕ) → i ≤ most_lines → Shorter (length bs) → From i bs
unfolding text_bytes ValidLines
at-bytes i [] l rec = all [] refl tt (omega arith)
at-bytes i (b ∷ bs) l rec = go (leb most_lines i) refl
  where
    go : (t : Bool) → leb most_lines i ≡ t → From i (b ∷ bs)
    go true e = let k : most_lines ≤ i = leb-true most_lines i e in some [] b bs refl tt (omega arith) (λ m. absurd (m (omega arith)))
    go false e = at-line i (b ∷ bs) (line_from (b ∷ bs)) refl (leb-false most_lines i e) rec (λ none. some [] b bs refl tt (omega arith) (λ m. none))

every-from : (n : ℕ) → Shorter n
every-from zero i bs h l = absurd (let z : suc (length bs) ≤ 0 = h in omega arith)
every-from (suc n) i bs h l = at-bytes i bs l (λ j cs k m. every-from n j cs (omega arith) m)

pub every-text : EveryText
every-text bytes = go (at-bytes 0 bytes zero-le (every-from (length bytes)))
  where
    go : From 0 bytes → Either bytes
    go (all ws e l h) = encodes ws (record { encoded = e; valid = l; few = omega arith })
    go (some ws b cs e l h k) =
        breaks (length ws) (record {
          before = ws;
          first = b;
          others = cs;
          encoded = e;
          valid = l;
          counted = refl;
          few = omega arith;
          none = λ m. k
              (λ z. m (sym (zero-add (length ws)) ∙ z));
        })
