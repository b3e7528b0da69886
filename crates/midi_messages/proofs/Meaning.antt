-- What the reader finds is what the bytes say, for all bytes.
use mathlib.Core.Path.{◌≡◌, refl, sym, ap, ◌∙◌, subst}
use mathlib.Core.Logic.{◌⊎◌, inl, inr}
use mathlib.Core.Bool.{false}
use mathlib.Core.List.{List, [], ◌∷◌, ◌++◌}
use Prim.Native.Nat.{ℕ, zero, suc, ◌<◌, ◌≤◌}
use native.Mathlib.Omega.{arith}
use native.Mathlib.Decide.{dec_lt}
use borrow.Table.Steps.{cases}
use borrow.Author.Tests.{lt-ltb, le-ltb, ne_eqb, eqb-true}
use lib.Dec.{eqb}
use lib.ListN.{length, get_or, length-append}
use Rattle.base_laws.proofs.Choice.{cond-true, cond-false}
use Rattle.base_answer.specs.declared.Answer.TheVariants.{CutShort, NotCarried}
use Rattle.midi_messages.specs.Message.{first_status, first_system, none, kind, data_bytes, classified}
use Rattle.midi_messages.specs.Writing.{Call, whole, fault, before, AllData, Whole, Part, Stops, at-end, at-status, Parses, nothing, written, running, system, stray, cut, running-cut}
use Rattle.midi_messages.specs.inside.Reading.{Step, parser_state, feed_data, feed_running, feed_status, stepped, behind, call_from, call_of}
use Rattle.midi_messages.specs.Claims.{EveryCall, OneParse}
use Rattle.std.specs.Prelude.{None, Err}

-- ---- what one byte does at each kind of place
rest : Step → List ℕ → Call
rest s bs = behind s (λ q. call_from q bs)

-- between messages
status-byte : (s b : ℕ) (bs : List ℕ) → first_status ≤ b → call_from (parser_state s 0 0) (b ∷ bs) ≡ rest (feed_status b) bs
unfolding call_from stepped rest
status-byte s b bs h = ap (λ x. rest x bs) (cond-false (feed_running s b) (feed_status b) (le-ltb b first_status h))

data-byte : (s b : ℕ) (bs : List ℕ) → b < first_status → call_from (parser_state s 0 0) (b ∷ bs) ≡ rest (feed_running s b) bs
unfolding call_from stepped rest
data-byte s b bs h = ap (λ x. rest x bs) (cond-true (feed_running s b) (feed_status b) (lt-ltb b first_status h))

-- within one
wanted : (s w d b : ℕ) (bs : List ℕ) → (w ≡ 0 → ⊥) → b < first_status → call_from (parser_state s w d) (b ∷ bs) ≡ rest (feed_data s w d b) bs
unfolding call_from stepped rest
wanted s w d b bs n h = ap (λ x. rest x bs) (cond-false _ _ (ne_eqb w 0 n) ∙ cond-true (feed_data s w d b) (Err CutShort) (lt-ltb b first_status h))

stopped : (s w d : ℕ) (bs : List ℕ) → (w ≡ 0 → ⊥) → Stops bs → call_from (parser_state s w d) bs ≡ fault CutShort
unfolding call_from stepped rest
stopped s w d _ n at-end = cond-false _ _ (ne_eqb w 0 n)
stopped s w d (b ∷ bs) n (at-status h) = ap (λ x. rest x bs) (cond-false _ _ (ne_eqb w 0 n) ∙ cond-false (feed_data s w d b) (Err CutShort) (le-ltb b first_status h))

-- ---- a message's data bytes
data Size (s : ℕ) : Type 0 where
  one : data_bytes s ≡ 1 → ((k v : ℕ) → classified s k v ≡ None) → Size s
  two : data_bytes s ≡ 2 → Size s

-- the kinds with one data byte are no notes
plain : (s n : ℕ) → kind s ≡ n → eqb n 8 ≡ false → eqb n 9 ≡ false → (k v : ℕ) → classified s k v ≡ None
unfolding classified
plain s n e a b k v = cond-false _ _ (ap (λ x. eqb x 8) e ∙ a) ∙ cond-false _ _ (ap (λ x. eqb x 9) e ∙ b)

size : (s : ℕ) → Size s
unfolding data_bytes
size s =
    cases (eqb (kind s) 0xc) (λ p. one (rw p) (plain s 0xc (eqb-true (kind s) 0xc p) refl refl))
    (λ p. cases (eqb (kind s) 0xd) (λ q. one (rw (p, q)) (plain s 0xd (eqb-true (kind s) 0xd q) refl refl)) (λ q. two (rw (p, q))))

-- what follows a place at which s wants n data bytes
at : ℕ → ℕ → List ℕ → Call
at s n bs = call_from (parser_state s n 0) bs

-- all of them: the message is heard
filled-one : (s : ℕ) (ds bs : List ℕ) → AllData ds → length ds ≡ 1 → ((k v : ℕ) → classified s k v ≡ None)
    → at s 1 (ds ++ bs) ≡ before (classified s (get_or ds 0 0) (get_or ds 1 0)) (at s 0 bs)
unfolding AllData at rest feed_data
filled-one s [] bs p l o = absurd (omega arith)
filled-one s (d ∷ []) bs p l o = wanted s 1 0 d bs (λ e. omega arith) p.0 ∙ ap (λ h. before h (at s 0 bs)) (o 0 d ∙ sym (o d 0))
filled-one s (d ∷ e ∷ ds) bs p l o = absurd (omega arith)

filled-two : (s : ℕ) (ds bs : List ℕ) → AllData ds → length ds ≡ 2
    → at s 2 (ds ++ bs) ≡ before (classified s (get_or ds 0 0) (get_or ds 1 0)) (at s 0 bs)
unfolding AllData at rest feed_data before
filled-two s [] bs p l = absurd (omega arith)
filled-two s (d ∷ []) bs p l = absurd (omega arith)
filled-two s (d ∷ e ∷ []) bs p l = wanted s 2 0 d (e ∷ bs) (λ e. omega arith) p.0 ∙ wanted s 1 d e bs (λ e. omega arith) p.1.0
filled-two s (d ∷ e ∷ f ∷ ds) bs p l = absurd (omega arith)

filled : (s : ℕ) (ds bs : List ℕ) → Whole s ds → Size s → at s (data_bytes s) (ds ++ bs) ≡ before (classified s (get_or ds 0 0) (get_or ds 1 0)) (at s 0 bs)
filled s ds bs w (one e o) = ap (λ n. at s n (ds ++ bs)) e ∙ filled-one s ds bs w.plain (w.full ∙ e) o
filled s ds bs w (two e) = ap (λ n. at s n (ds ++ bs)) e ∙ filled-two s ds bs w.plain (w.full ∙ e)

-- too few of them
unfilled-by : (s n : ℕ) (ds bs : List ℕ) → AllData ds → length ds < n → n ≤ 2 → Stops bs → at s n (ds ++ bs) ≡ fault CutShort
unfolding AllData at rest feed_data before
unfilled-by s n [] bs p l m z = stopped s n 0 bs (λ e. omega arith) z
unfilled-by s n (d ∷ []) bs p l m z =
    let e : n ≡ 2 = omega arith in
    ap (λ k. at s k (d ∷ bs)) e ∙ wanted s 2 0 d bs (λ e. omega arith) p.0 ∙ stopped s 1 d bs (λ e. omega arith) z
unfilled-by s n (d ∷ e ∷ ds) bs p l m z = absurd (omega arith)

some-data : (s : ℕ) → Size s → (0 < data_bytes s) × (data_bytes s ≤ 2)
some-data s (one e o) = omega arith
some-data s (two e) = omega arith

has-data : (s : ℕ) → data_bytes s ≡ 0 → ⊥
has-data s z = omega (arith, (some-data s (size s)).0)

unfilled : (s : ℕ) (ds bs : List ℕ) → Part s ds → Stops bs → at s (data_bytes s) (ds ++ bs) ≡ fault CutShort
unfilled s ds bs w z = unfilled-by s (data_bytes s) ds bs w.plain w.few (some-data s (size s)).1 z

-- ---- each way of saying something
begins : (s k : ℕ) (bs : List ℕ) → first_status ≤ k → k < first_system → at s 0 (k ∷ bs) ≡ at k (data_bytes k) bs
unfolding at rest feed_status before
begins s k bs h l = status-byte s k bs h ∙ ap (λ x. rest x bs) (cond-true _ _ (lt-ltb k first_system l))

resumes : (s d : ℕ) (bs : List ℕ) → first_status ≤ s → d < first_status → at s 0 (d ∷ bs) ≡ at s (data_bytes s) (d ∷ bs)
unfolding at feed_running
resumes s d bs h l =
    data-byte s d bs l ∙ ap (λ x. rest x bs) (cond-false _ _ (ne_eqb s none (λ e. omega arith)))
    ∙ sym (wanted s (data_bytes s) 0 d bs (has-data s) l)

resumes-whole : (s : ℕ) (ds bs : List ℕ) → Whole s ds → at s 0 (ds ++ bs) ≡ at s (data_bytes s) (ds ++ bs)
unfolding AllData
resumes-whole s [] bs w = absurd (has-data s (sym w.full))
resumes-whole s (d ∷ ds) bs w = resumes s d (ds ++ bs) w.status w.plain.0

said : {s : ℕ} {bs : List ℕ} {c : Call} → Parses s bs c → at s 0 bs ≡ c
unfolding at call_from rest feed_status feed_running AllData
said nothing = refl
said (written {s} {k} {ds} {bs} w r) = begins s k (ds ++ bs) w.status w.channel ∙ filled k ds bs w (size k) ∙ ap (before _) (said r)
said (running {s} {ds} {bs} w r) = resumes-whole s ds bs w ∙ filled s ds bs w (size s) ∙ ap (before _) (said r)
said (system {s} {b} {bs} h) = status-byte s b bs (omega arith) ∙ ap (λ x. rest x bs) (cond-false _ _ (le-ltb b first_system h))
said (stray {b} {bs} h) = data-byte none b bs h
said (cut {s} {k} {ds} {bs} w z) = begins s k (ds ++ bs) w.status w.channel ∙ unfilled k ds bs w z
said (running-cut {s} {d} {ds} {bs} w z) = resumes s d (ds ++ bs) w.status w.plain.0 ∙ unfilled s (d ∷ ds) bs w z

pub one-parse : OneParse
unfolding call_of at
one-parse bs c r = said r

-- ---- every list of bytes says something
cuts : (b : ℕ) (bs : List ℕ) → (b < first_status → ⊥) → Stops (b ∷ bs)
cuts b bs h = let g : first_status ≤ b = omega arith in at-status g

not-cut : (b : ℕ) (bs : List ℕ) → b < first_status → Stops (b ∷ bs) → ⊥
not-cut b bs h (at-status g) = omega arith

-- the bytes behind a status are all the data of its message, or too little of it and what cuts it
data Split (k : ℕ) (bs : List ℕ) : Type 0 where
  all : (ds cs : List ℕ) → Whole k ds → bs ≡ ds ++ cs → Split k bs
  some : (ds cs : List ℕ) → Part k ds → Stops cs → bs ≡ ds ++ cs → Split k bs

split : (k : ℕ) (bs : List ℕ) → first_status ≤ k → k < first_system → Split k bs
unfolding AllData
split k bs h l = by_size (size k) bs
  where
    part : (ds : List ℕ) → AllData ds → length ds < data_bytes k → Part k ds
    part ds p f = record { status = h; channel = l; plain = p; few = f }

    full : (ds : List ℕ) → AllData ds → length ds ≡ data_bytes k → Whole k ds
    full ds p f = record { status = h; channel = l; plain = p; full = f }

    second : (d e : ℕ) (bs : List ℕ) → data_bytes k ≡ 2 → d < first_status → Dec (e < first_status) → Split k (d ∷ e ∷ bs)
    second d e bs z p (yes q) = all (d ∷ e ∷ []) bs (full (d ∷ e ∷ []) (p, (q, tt)) (sym z)) refl
    second d e bs z p (no q) = some (d ∷ []) (e ∷ bs) (part (d ∷ []) (p, tt) (omega arith)) (cuts _ _ q) refl

    first : (d : ℕ) (bs : List ℕ) → Size k → Dec (d < first_status) → Split k (d ∷ bs)
    first d bs (one z o) (no q) = some [] (d ∷ bs) (part [] tt (omega arith)) (cuts _ _ q) refl
    first d bs (two z) (no q) = some [] (d ∷ bs) (part [] tt (omega arith)) (cuts _ _ q) refl
    first d bs (one z o) (yes p) = all (d ∷ []) bs (full (d ∷ []) (p, tt) (sym z)) refl
    first d [] (two z) (yes p) = some (d ∷ []) [] (part (d ∷ []) (p, tt) (omega arith)) at-end refl
    first d (e ∷ bs) (two z) (yes p) = second d e bs z p (dec_lt e first_status)

    by_size : Size k → (bs : List ℕ) → Split k bs
    by_size (one z o) [] = some [] [] (part [] tt (omega arith)) at-end refl
    by_size (two z) [] = some [] [] (part [] tt (omega arith)) at-end refl
    by_size z (d ∷ bs) = first d bs z (dec_lt d first_status)

record Told (s : ℕ) (bs : List ℕ) : Type 0 where
  call : Call
  says : Parses s bs call

Channel : ℕ → Type 0
Channel s = (first_status ≤ s) × (s < first_system)

-- with shorter bytes told under every status, b and the bytes behind it are told under none and under any
next : (n s b : ℕ) (bs : List ℕ) → length bs < n → ((k : ℕ) (cs : List ℕ) → length cs < n → Channel k → Told k cs) → (s ≡ none) ⊎ Channel s → Told s (b ∷ bs)
unfolding Channel
next n s b bs l rec c = by_byte (dec_lt b first_status) (dec_lt b first_system) c
  where
    short : (ds cs : List ℕ) (m : ℕ) → length (ds ++ cs) < m → length cs < m
    short ds cs m h = let e = length-append ds cs in omega arith

    after-status : first_status ≤ b → b < first_system → Split b bs → Told s (b ∷ bs)
    after-status p q (all ds cs w e) =
        let r = rec b cs (short ds cs n (subst (λ x. length x < n) e l)) (p, q) in
        subst (λ x. Told s (b ∷ x)) (sym e) (record { call = _; says = written w r.says })
    after-status p q (some ds cs w z e) = subst (λ x. Told s (b ∷ x)) (sym e) (record { call = fault CutShort; says = cut w z })

    under : Channel s → b < first_status → Split s (b ∷ bs) → Told s (b ∷ bs)
    under k p (all [] cs w e) = absurd (has-data s (sym w.full))
    under k p (all (d ∷ ds) cs w e) =
        let f : suc (length bs) ≡ suc (length (ds ++ cs)) = ap length e in
        let r = rec s cs (short ds cs n (omega arith)) k in
        subst (λ x. Told s x) (sym e) (record { call = _; says = running w r.says })
    under k p (some [] cs w z e) = absurd (not-cut b bs p (subst Stops (sym e) z))
    under k p (some (d ∷ ds) cs w z e) = subst (λ x. Told s x) (sym e) (record { call = fault CutShort; says = running-cut w z })

    by_byte : Dec (b < first_status) → Dec (b < first_system) → (s ≡ none) ⊎ Channel s → Told s (b ∷ bs)
    by_byte (yes p) q (inl e) = subst (λ x. Told x (b ∷ bs)) (sym e) (record { call = fault NotCarried; says = stray p })
    by_byte (yes p) q (inr k) = under k p (split s (b ∷ bs) k.0 k.1)
    by_byte (no p) (yes q) c = after-status (omega arith) q (split b bs (omega arith) q)
    by_byte (no p) (no q) c = let g : first_system ≤ b = omega arith in record { call = fault NotCarried; says = system g }

any : (n s : ℕ) (bs : List ℕ) → length bs ≤ n → ((k : ℕ) (cs : List ℕ) → length cs < n → Channel k → Told k cs) → (s ≡ none) ⊎ Channel s → Told s bs
any n s [] h rec c = record { call = whole []; says = nothing }
any n s (b ∷ bs) h rec c = next n s b bs (omega arith) rec c

told : (n s : ℕ) (bs : List ℕ) → length bs < n → (s ≡ none) ⊎ Channel s → Told s bs
told zero s bs h c = absurd (omega arith)
told (suc n) s bs h c = any n s bs (omega arith) (λ k cs l d. told n k cs l (inr d)) c

pub every_call : EveryCall
unfolding call_of at
every_call bs =
    let t = told (suc (length bs)) none bs (omega arith) (inl refl) in
    subst (Parses none bs) (sym (one-parse bs t.call t.says)) t.says
