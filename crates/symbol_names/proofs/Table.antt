-- A symbol table: every run of bits is read as what it encodes. Assumes nothing.
use Prim.Native.Nat.{ℕ, zero, suc, ◌+◌, ◌-◌, ◌*◌, ◌^◌, ◌<◌, ◌≤◌}
use mathlib.Core.Path.{◌≡◌, refl, sym, ap, ◌∙◌}
use mathlib.Core.Bool.{Bool, true, false, cond, true≢false}
use mathlib.Core.List.{List, [], ◌∷◌, ◌++◌, append_assoc, append-nil}
use native.Mathlib.Nat.{mod-eq_of_lt, lt_of_not-le}
use native.Mathlib.Omega.{arith}
use native.Mathlib.Decide.{dec_le}
use borrow.Author.Tests.{le-leb, lt-leb, lt-ltb, ltb-true, eqb-true}
use lib.ListN.{length, take, drop, replicate, length-drop, length-append, length-replicate, take-append-drop}
use lib.Seq.{take_all, take_at, drop_at, take-add, length-take-le, take-append-le, drop-append-le}
use lib.Dec.{leb, ltb, eqb}
use Rattle.base_laws.proofs.Choice.{cond-true, both_true}
use Rattle.base_answer.specs.declared.Answer.TheVariants as answers
use Rattle.base_bitstream.specs.Bits.{field, bits_of, value_of}
use Rattle.base_bitstream.specs.Filling.{missing, filled_up, bytes_from}
use Rattle.base_bitstream.proofs.BitValues.{length-field, value_of-field, field-value_of, value_of-lt, length-bits_of}
use Rattle.base_bitstream.proofs.Filling.{zeros-value, value-zeros, filled-up, bytes_from-bits, length-bytes_from}
use Rattle.symbol_names.specs.Form.{Names, count_bits, length_bits, name_bits, names_bits, table_bits, Bytes, ValidName, ValidNames, ValidTable, holds, refused}
use Rattle.symbol_names.specs.inside.Reading.{Read, got, cut, and_then, number_from, stretch_from, name_from, names_from, table_from, is_filling, judged, table_of}
use Rattle.symbol_names.specs.Claims.{Verdict, encodes, is_cut, left_over, EveryTable, TableRead, TableCut, TableLeftOver, OneTable}

-- what reading bits met: something valid that stands there, or the beginning of it
pub data Met {A : Type 0} (encode : A → List Bool) (Valid : A → Type 0) (l : List Bool) : Read A → Type 0 where
  whole : (a : A) (r : List Bool) → Valid a → l ≡ encode a ++ r → Met encode Valid l (got a r)
  begun : (a : A) (b : Bool) (e : List Bool) → Valid a → l ++ (b ∷ e) ≡ encode a → Met encode Valid l cut

-- ---- a number

-- zero bits that are still to come, one at least
more : (n : ℕ) (l : List Bool) → length l < n → length (l ++ (false ∷ replicate (n - suc (length l)) false)) ≡ n
more n l h = simp (length-append, length-replicate) (omega arith)

-- something of n bits
fixed-met : {A : Type 0} (n : ℕ) (value : List Bool → A) (encode : A → List Bool) (Law : A → Type 0)
    → ((x : List Bool) → n ≤ length x → (encode (value x) ≡ take n x) × Law (value x)) → (l : List Bool)
    → Met encode Law l (cond (leb n (length l)) (got (value l) (drop n l)) cut)
fixed-met n value encode Law is l = go (dec_le n (length l))
  where
    go : Dec (n ≤ length l) → Met encode Law l (cond (leb n (length l)) (got (value l) (drop n l)) cut)
    go (yes h) = rw (le-leb n (length l) h) (whole (value l) (drop n l) (is l h).1 (cc (take-append-drop n l, (is l h).0)))
    go (no h) =
        let g = lt_of_not-le h in
        let x = l ++ (false ∷ replicate (n - suc (length l)) false) in
        let m = more n l g in
        let f = is x (omega arith) in
        rw (lt-leb n (length l) g) (begun (value x) false (replicate (n - suc (length l)) false) f.1 (cc (f.0, take_all n x (omega arith))))

-- the bits are the field of their number
own-field : (n : ℕ) (l : List Bool) → length l ≡ n → (field n (value_of l) ≡ l) × (value_of l < 2 ^ n)
own-field n l e = (cc (field-value_of l), rw e at (value_of-lt l))

number-met : (n : ℕ) (l : List Bool) → Met (field n) (λ v. v < 2 ^ n) l (number_from n l)
unfolding number_from
number-met n l = fixed-met n (λ x. value_of (take n x)) (field n) (λ v. v < 2 ^ n) (λ x h. own-field n (take n x) (length-take-le n x h)) l

number-here : (n v : ℕ) (r : List Bool) → v < 2 ^ n → number_from n (field n v ++ r) ≡ got v r
unfolding number_from
number-here n v r h =
    let k = length-field n v in
    let g : n ≤ length (field n v ++ r) = simp length-append (omega arith) in
    cc (le-leb n (length (field n v ++ r)) g, take_at (field n v) r n k, value_of-field n v, mod-eq_of_lt h, drop_at (field n v) r n k)

-- ---- bytes

abbrev Stretch : ℕ → List ℕ → Type 0
Stretch n s = (length s ≡ n) × Bytes s

bytes-from : (n : ℕ) (l : List Bool) → 8 * n ≤ length l → Bytes (bytes_from n l)
unfolding bytes_from
bytes-from zero l h i = omega arith
bytes-from (suc n) l h zero = (own-field 8 (take 8 l) (length-take-le 8 l (omega arith))).1
bytes-from (suc n) l h (suc i) = let d : length (drop 8 l) ≡ length l - 8 = length-drop 8 l in bytes-from n (drop 8 l) (omega arith) i

-- only so many bits are looked at
from-take : (n : ℕ) (l : List Bool) → 8 * n ≤ length l → bits_of (bytes_from n l) ≡ take (8 * n) l
unfolding bytes_from bits_of
from-take zero l h = refl
from-take (suc n) l h =
    let f = own-field 8 (take 8 l) (length-take-le 8 l (omega arith)) in
    let d = length-drop 8 l in
    let e : 8 + 8 * n ≡ 8 * suc n = omega arith in
    cc (f.0, from-take n (drop 8 l) (omega arith), take-add 8 (8 * n) l)

stretch-met : (n : ℕ) (l : List Bool) → Met bits_of (Stretch n) l (stretch_from n l)
unfolding stretch_from
stretch-met n l = fixed-met (8 * n) (bytes_from n) bits_of (Stretch n) (λ x h. (from-take n x h, (length-bytes_from n x, bytes-from n x h))) l

-- what follows does not matter
from-append : (n : ℕ) (x r : List Bool) → 8 * n ≤ length x → bytes_from n (x ++ r) ≡ bytes_from n x
unfolding bytes_from
from-append zero x r h = refl
from-append (suc n) x r h =
    let d = length-drop 8 x in
    cc (take-append-le 8 x r (omega arith), drop-append-le 8 x r (omega arith), from-append n (drop 8 x) r (omega arith))

stretch-here : (s : List ℕ) (r : List Bool) → Bytes s → stretch_from (length s) (bits_of s ++ r) ≡ got s r
unfolding stretch_from
stretch-here s r h =
    let n = 8 * length s in
    let k = length-bits_of s in
    let g : n ≤ length (bits_of s ++ r) = simp length-append (omega arith) in
    cc (le-leb n (length (bits_of s ++ r)) g, from-append (length s) (bits_of s) r (omega arith), bytes_from-bits s h, drop_at (bits_of s) r n k)

-- ---- a number, and so many things behind it

module _ {B : Type 0} (w : ℕ) (size : B → ℕ) (encode all : B → List Bool) (Law Valid : B → Type 0) (encoded : (b : B) → all b ≡ field w (size b) ++ encode b)
    (valid : (b : B) → size b < 2 ^ w → Law b → Valid b) (from : ℕ → List Bool → Read B) where
  counted-met : ((n : ℕ) (r : List Bool) → Met encode (λ b. (size b ≡ n) × Law b) r (from n r)) → ((n : ℕ) → (b : B) × ((size b ≡ n) × Law b)) → (l : List Bool)
      → Met all Valid l (and_then (number_from w l) from)
  counted-met met some l = go (number_from w l) (number-met w l)
    where
      behind : (n : ℕ) (r : List Bool) → n < 2 ^ w → l ≡ field w n ++ r → (m : Read B) → Met encode (λ b. (size b ≡ n) × Law b) r m → Met all Valid l m
      behind n r h e m (whole b q (k, g) f) = whole b q (valid b (omega arith) g) (cc (encoded b, append_assoc (field w (size b)) (encode b) q))
      behind n r h e m (begun b c d (k, g) f) = begun b c d (valid b (omega arith) g) (cc (encoded b, append_assoc (field w n) r (c ∷ d)))

      go : (m : Read ℕ) → Met (field w) (λ v. v < 2 ^ w) l m → Met all Valid l (and_then m from)
      go m (whole n r h e) = behind n r h e (from n r) (met n r)
      go m (begun n c d h e) =
          let o = some n in
          let b = o.0 in
          let k = o.1.0 in
          begun b c (d ++ encode b) (valid b (omega arith) o.1.1) (cc (encoded b, append_assoc l (c ∷ d) (encode b)))

  counted-here : ((b : B) (r : List Bool) → Law b → from (size b) (encode b ++ r) ≡ got b r) → (b : B) (r : List Bool) → size b < 2 ^ w → Law b
      → and_then (number_from w (all b ++ r)) from ≡ got b r
  counted-here here b r h g = cc (encoded b, append_assoc (field w (size b)) (encode b) r, number-here w (size b) (encode b ++ r) h, here b r g)

-- ---- a name

zero-bytes : (n : ℕ) → Bytes (replicate n 0)
zero-bytes zero i = omega arith
zero-bytes (suc n) zero = omega arith
zero-bytes (suc n) (suc i) = zero-bytes n i

name-met : (l : List Bool) → Met name_bits ValidName l (name_from l)
unfolding name_from name_bits
name-met l =
    counted-met length_bits length bits_of name_bits Bytes ValidName (λ s. refl) (λ s h b. record { short = h; bytes = b }) stretch_from stretch-met
    (λ n. (replicate n 0, (length-replicate n 0, zero-bytes n))) l

name-here : (name : List ℕ) (r : List Bool) → ValidName name → name_from (name_bits name ++ r) ≡ got name r
unfolding name_from name_bits
name-here name r h =
    counted-here length_bits length bits_of name_bits Bytes ValidName (λ s. refl) (λ s h b. record { short = h; bytes = b }) stretch_from stretch-here name r h.short
    h.bytes

-- ---- so many names

abbrev pub Many : ℕ → Names → Type 0
Many k names = (length names ≡ k) × ValidNames names

-- names that are none
nameless : (k : ℕ) → Many k (replicate k [])
unfolding ValidNames
nameless zero = (refl, tt)
nameless (suc k) = (ap suc (nameless k).0, (record { short = omega arith; bytes = zero-bytes 0 }, (nameless k).1))

with-names : (k : ℕ) (l : List Bool) (name : List ℕ) (r : List Bool) → ValidName name → l ≡ name_bits name ++ r → (m : Read Names) → Met names_bits (Many k) r m
    → Met names_bits (Many (suc k)) l (and_then m (λ names q. got (name ∷ names) q))
unfolding names_bits ValidNames
with-names k l name r h e m (whole names q (n, g) f) =
    whole (name ∷ names) q (ap suc n, (h, g)) (cc (append_assoc (name_bits name) (names_bits names) q))
with-names k l name r h e m (begun names b d (n, g) f) =
    begun (name ∷ names) b d (ap suc n, (h, g)) (cc (append_assoc (name_bits name) r (b ∷ d)))

pub names-met : (k : ℕ) (l : List Bool) → Met names_bits (Many k) l (names_from k l)
unfolding names_from names_bits ValidNames
names-met zero l = whole [] l (refl, tt) refl
names-met (suc k) l = go (λ r. names-met k r) (name_from l) (name-met l)
  where
    go : ((r : List Bool) → Met names_bits (Many k) r (names_from k r)) → (m : Read (List ℕ)) → Met name_bits ValidName l m
        → Met names_bits (Many (suc k)) l (and_then m (λ name r. and_then (names_from k r) (λ names q. got (name ∷ names) q)))
    go ih m (whole name r h e) = with-names k l name r h e (names_from k r) (ih r)
    go ih m (begun name b d h e) =
        let others : Names = replicate k [] in
        begun (name ∷ others) b (d ++ names_bits others) (ap suc (nameless k).0, (h, (nameless k).1)) (cc (append_assoc l (b ∷ d) (names_bits others)))

names-here : (names : Names) (r : List Bool) → ValidNames names → names_from (length names) (names_bits names ++ r) ≡ got names r
unfolding names_from names_bits ValidNames
names-here [] r h = refl
names-here (name ∷ names) r (g, h) =
    ap (names_from (suc (length names))) (append_assoc (name_bits name) (names_bits names) r) ∙ rw (name-here name (names_bits names ++ r) g, names-here names r h)

-- ---- the table

table-met : (l : List Bool) → Met table_bits ValidTable l (table_from l)
unfolding table_from table_bits
table-met l =
    counted-met count_bits length names_bits table_bits ValidNames ValidTable (λ names. refl) (λ names h g. record { few = h; valid = g }) names_from names-met
    (λ k. (replicate k [], nameless k)) l

table_here : (names : Names) (r : List Bool) → ValidTable names → table_from (table_bits names ++ r) ≡ got names r
unfolding table_from table_bits
table_here names r h =
    counted-here count_bits length names_bits table_bits ValidNames ValidTable (λ names. refl) (λ names h g. record { few = h; valid = g }) names_from names-here names r
    h.few h.valid

-- ---- the filling

filling-zeros : (n : ℕ) → n < 8 → is_filling (replicate n false) ≡ true
filling-zeros n h = let g : length (replicate n false) < 8 = simp length-replicate (omega arith) in rw (lt-ltb _ _ g, zeros-value n)

-- bits behind a table are filling exactly where they fill it up
fills : (bytes : List ℕ) (b r : List Bool) → bits_of bytes ≡ b ++ r → is_filling r ≡ true → bits_of bytes ≡ filled_up b
fills bytes b r e f =
    let p = both_true (ltb (length r) 8) (eqb (value_of r) 0) f in
    let l : length (bits_of bytes) ≡ 8 * length bytes = length-bits_of bytes in
    let m : length (bits_of bytes) ≡ length b + length r = ap length e ∙ length-append b r in
    let s : length r < 8 = ltb-true _ _ p.0 in
    let k : length (bits_of bytes) - length b ≡ length r = omega arith in
    filled-up (bits_of bytes) b (omega arith) (omega arith)
    (e ∙ ap (λ (x : List Bool). b ++ x) (value-zeros r (eqb-true _ _ p.1) ∙ ap (λ (x : ℕ). replicate x false) (sym k)))

filled-by : (b r : List Bool) → b ++ r ≡ filled_up b → is_filling r ≡ true
unfolding filled_up
filled-by b r e =
    let f : r ≡ replicate (missing (length b)) false = sym (drop_at b r (length b) refl) ∙ ap (drop (length b)) e ∙ drop_at b (replicate (missing (length b)) false)
    (length b) refl in
    ap is_filling f ∙ filling-zeros (missing (length b)) (omega arith)

-- ---- the claims

pub table-read : TableRead
unfolding table_of filled_up
table-read bytes names h =
    let n = missing (length (table_bits names)) in
    ap (λ (l : List Bool). judged (table_from l)) h.encoded ∙ ap judged (table_here names (replicate n false) h.valid) ∙ cond-true _ _
    (filling-zeros n (omega arith))

pub one_table : OneTable
one_table bytes names others g h = cc (table-read bytes names g, table-read bytes others h)

-- what is cut short is read as nothing: the table that goes on would be another one
cut-read : (l : List Bool) (names : Names) (b : Bool) (d : List Bool) → ValidTable names → l ++ (b ∷ d) ≡ table_bits names → table_from l ≡ cut
cut-read l names b d h e = go (table_from l) (table-met l)
  where
    go : (m : Read Names) → Met table_bits ValidTable l m → m ≡ cut
    go m (begun a c f g k) = refl
    go m (whole others r g k) =
        let q : [] ≡ r ++ (b ∷ d) = cc (
          append-nil (table_bits names),
          append_assoc (table_bits others) r (b ∷ d),
          table_here names [] h,
          table_here others (r ++ (b ∷ d))
              g,
        ) in
        absurd (omega (arith, ap length q, length-append r (b ∷ d)))

pub table-cut : TableCut
unfolding table_of
table-cut bytes c = ap judged (cut-read (bits_of bytes) c.names c.next c.others c.valid c.encoded)

pub table-left-over : TableLeftOver
unfolding table_of
table-left-over bytes c =
    ap (λ (l : List Bool). judged (table_from l)) c.encoded ∙ ap judged (table_here c.names c.others c.valid) ∙ go (is_filling c.others) refl
  where
    go : (t : Bool) → is_filling c.others ≡ t → cond t (holds c.names) (refused answers.LeftOver) ≡ refused answers.LeftOver
    go true f = absurd (c.unfilled (fills bytes (table_bits c.names) c.others c.encoded f))
    go false f = refl

pub every-table : EveryTable
every-table bytes = go (table_from (bits_of bytes)) (table-met (bits_of bytes))
  where
    go : (m : Read Names) → Met table_bits ValidTable (bits_of bytes) m → Verdict bytes
    go m (begun names b d h e) = is_cut (record { names = names; valid = h; next = b; others = d; encoded = e })
    go m (whole names r h e) = ended (is_filling r) refl
      where
        ended : (t : Bool) → is_filling r ≡ t → Verdict bytes
        ended true f = encodes names (record { valid = h; encoded = fills bytes (table_bits names) r e f })
        ended false f =
            left_over (record {
              names = names;
              valid = h;
              others = r;
              encoded = e;
              unfilled = λ g. true≢false (sym (filled-by (table_bits names) r (sym e ∙ g)) ∙ f);
            })
