-- The pieces of a line's text, joined. Assumes nothing.
use Prim.Native.Nat.{ℕ, ◌+◌, ◌≤◌, ◌<◌, min as lesser}
use mathlib.Core.Path.{◌≡◌, refl, sym, ap, ◌∙◌}
use mathlib.Core.Bool.{Bool}
use mathlib.Core.List.{List, [], ◌∷◌, ◌++◌, append_assoc, append-nil}
use mathlib.Core.Option.{Option, none, some}
use native.Mathlib.Numerals.{add-one}
use native.Mathlib.Omega.{arith}
use lib.ListN.{length, take, drop, get_or, take-append-drop}
use lib.Seq.{take-suc}
use lib.Dec.{T}
use lib.Ieee.{Float, binary32, fits}
use Rattle.std.proofs.lemmas.List.{take-take}
use Rattle.base_laws.proofs.Lists.{take_min}
use Rattle.text_numerals.specs.Numeral.{numeral_of, encoded, name_bytes}
use Rattle.text_numerals.specs.Nearest.{sign_of}
use Rattle.text_numerals.specs.Shortest.{Shortest}
use Rattle.text_number_writer.specs.Push.{pushed, push_all}
use Rattle.text_number_writer.specs.Answers.{TextIs}
use Rattle.text_number_writer.specs.declared.LineText.{LineText}
use Rattle.std.specs.Prelude.{Option as Optional, Some, None}
use Rattle.std.proofs.lemmas.Option.{same_Some, none-some}
use Rattle.text_number_writer.proofs.Pushing.{push-append}
use Rattle.score_line.specs.declared.Label.{Label}
use Rattle.score_line.specs.declared.Label.TheVariants.{Unlabelled, Labelled}
use Rattle.text_format.specs.Form.{spaces, label_bytes}
use Rattle.text_line_writer.specs.inside.Drafts.{beside, joined, Joined, number_bytes, next_bytes, values_bytes, label_bytes_of}
use Rattle.text_line_writer.proofs.Numbers.{number_is, number-none}

-- ---- bytes behind bytes

pub beside-assoc : (a b c : Option (List ℕ)) → beside (beside a b) c ≡ beside a (beside b c)
beside-assoc none b c = refl
beside-assoc (some x) none c = refl
beside-assoc (some x) (some y) none = refl
beside-assoc (some x) (some y) (some z) = ap {B = Option (List ℕ)} some (append_assoc x y z)

pub beside_nothing : (a : Option (List ℕ)) → beside a (some []) ≡ a
beside_nothing none = refl
beside_nothing (some x) = ap {B = Option (List ℕ)} some (append-nil x)

nothing-beside : (a : Option (List ℕ)) → beside (some []) a ≡ a
nothing-beside none = refl
nothing-beside (some y) = refl

-- one piece and then another
pub joined-then : {t u : LineText} {o r : Optional LineText} {a b : Option (List ℕ)} → Joined t a o → o ≡ Some u → Joined u b r → Joined t (beside a b) r
joined-then {t} {u} {o} {r} {a} {b} = go a b
  where
    go : (a b : Option (List ℕ)) → Joined t a o → o ≡ Some u → Joined u b r → Joined t (beside a b) r
    go none b e f g = absurd (none-some u (sym e.is ∙ f))
    go (some x) none e f g = record { is = g.is }
    go (some x) (some y) e f g =
        record { is = g.is ∙ ap (λ (v : LineText). Some (push_all v y)) (same_Some _ _ (sym f ∙ e.is)) ∙ ap Some (sym (push-append t x y)) }

-- the last piece is there
pub pushed-last : {t u : LineText} {x : List ℕ} → u ≡ push_all t x → Joined t (some x) (Some u)
pushed-last e = record { is = ap Some e }

-- bytes that are there, and then a piece
pub pushed-then : {t u : LineText} {r : Optional LineText} (x : List ℕ) {b : Option (List ℕ)} → u ≡ push_all t x → Joined u b r → Joined t (beside (some x) b) r
pushed-then x e g = joined-then (pushed-last e) refl g

-- where a piece is missing, nothing is there
pub joined-cut : {t : LineText} {o r : Optional LineText} {a : Option (List ℕ)} (b : Option (List ℕ)) → Joined t a o → o ≡ None → r ≡ None → Joined t (beside a b) r
joined-cut {t} {o} {r} {a} b = go a
  where
    go : (a : Option (List ℕ)) → Joined t a o → o ≡ None → r ≡ None → Joined t (beside a b) r
    go none e f g = record { is = g }
    go (some x) e f g = absurd (none-some (push_all t x) (sym f ∙ e.is))

pub joined_as : {t : LineText} {r : Optional LineText} {a b : Option (List ℕ)} → a ≡ b → Joined t a r → Joined t b r
joined_as {t} e j = record { is = j.is ∙ ap (joined t) e }

-- ---- one piece

pub byte-first : (t u r : LineText) (b : ℕ) (bs : List ℕ) → u ≡ pushed t b → r ≡ push_all u bs → r ≡ push_all t (b ∷ bs)
unfolding push_all
byte-first t u r b bs e f = f ∙ ap (λ (v : LineText). push_all v bs) e

pub number-joins : {t u : LineText} (x : Float) {v : Optional (ℕ × ℕ)} {n k : ℕ} {minus : Bool} → TextIs x v → v ≡ Some (n, k) → minus ≡ sign_of x
    → u ≡ push_all t (encoded (numeral_of minus n (lesser k 3))) → Joined t (number_bytes x) (Some u)
unfolding TextIs number_bytes
number-joins {t} {u} x {v} {n} {k} {minus} a b c e =
    let s : Shortest x n k = rw b at a in
    let l : lesser k 3 ≡ k = omega (arith, s.few) in
    rw (number_is x n k s) (pushed-last (cc))

pub number-lacks : {t : LineText} {r : Optional LineText} (x : Float) {v : Optional (ℕ × ℕ)} → T (fits binary32 x) → TextIs x v → v ≡ None → r ≡ None
    → Joined t (number_bytes x) r
unfolding TextIs number_bytes
number-lacks x h a b e = rw (number-none x h (rw b at a)) (record { is = e })

pub one-byte : (t : LineText) (b : ℕ) → pushed t b ≡ push_all t (b ∷ [])
unfolding push_all
one-byte t b = refl

pub next-joins : {t u : LineText} {r : Optional LineText} (x : Float) → u ≡ pushed t 32 → Joined u (number_bytes x) r → Joined t (next_bytes x) r
unfolding next_bytes
next-joins {t} x e g = pushed-then (32 ∷ []) (e ∙ one-byte t 32) g

-- ---- a label

pub label-joins : (t a b r : LineText) (l : Label) {n : ℕ} → l ≡ Labelled n → a ≡ push_all t (name_bytes n) → b ≡ pushed a 58 → r ≡ pushed b 32
    → r ≡ push_all t (label_bytes_of l)
unfolding label_bytes_of label_bytes spaces push_all
label-joins t a b r l {n} e x y z =
    z ∙ ap (λ (v : LineText). pushed v 32) y ∙ ap (λ (v : LineText). pushed (pushed v 58) 32) x ∙ sym (push-append t (name_bytes n) (58 ∷ (32 ∷ [])))
    ∙ ap (λ (k : Label). push_all t (label_bytes_of k)) (sym e)

pub no_label : (t : LineText) (l : Label) → l ≡ Unlabelled → t ≡ push_all t (label_bytes_of l)
unfolding label_bytes_of label_bytes push_all
no_label t l e = ap (λ (k : Label). push_all t (label_bytes_of k)) (sym e)

-- ---- values

pub value-more : (xs : List Float) (x : Float) → beside (values_bytes xs) (next_bytes x) ≡ values_bytes (xs ++ (x ∷ []))
unfolding values_bytes
value-more [] x = nothing-beside (next_bytes x) ∙ sym (beside_nothing (next_bytes x))
value-more (y ∷ xs) x = beside-assoc (next_bytes y) (values_bytes xs) (next_bytes x) ∙ ap (beside (next_bytes y)) (value-more xs x)

values-append : (xs ys : List Float) → beside (values_bytes xs) (values_bytes ys) ≡ values_bytes (xs ++ ys)
unfolding values_bytes
values-append [] ys = nothing-beside (values_bytes ys)
values-append (x ∷ xs) ys = beside-assoc (next_bytes x) (values_bytes xs) (values_bytes ys) ∙ ap (beside (next_bytes x)) (values-append xs ys)

pub record Valued (t : LineText) (n : ℕ) (values : List Float) (r : LineText) (i : ℕ) : Type 0 where
  pub within : i ≤ n
  pub joined-so : Joined t (values_bytes (take i values)) (Some r)

pub values-start : {t : LineText} {n : ℕ} {values : List Float} → Valued t n values t 0
unfolding values_bytes push_all
values-start = record { within = omega arith; joined-so = record { is = refl } }

one-on : {i : ℕ} (values : List Float) (x : Float) → i < length values → beside (values_bytes (take i values)) (next_bytes (get_or values i x)) ≡ values_bytes (take (i + 1) values)
one-on {i} values x h =
    value-more (take i values) (get_or values i x) ∙ sym (ap values_bytes (ap (λ (k : ℕ). take k values) (add-one i) ∙ take-suc values i x h))

pub values-again : {t r q : LineText} {o : Optional LineText} {n i : ℕ} (count : ℕ) {values : List Float} (x : Float) → n ≡ lesser count 8 → length values ≡ 8
    → Valued t n values r i → i < n → Joined r (next_bytes (get_or values i x)) o → o ≡ Some q
    → Valued t n values q (i + 1)
values-again count {values} x e l c h j f =
    record { within = omega arith; joined-so = joined_as (one-on values x (omega arith)) (joined-then c.joined-so refl (record { is = sym f ∙ j.is })) }

pub values-cut : {t r : LineText} {o q : Optional LineText} {n i : ℕ} (count : ℕ) {values : List Float} (x : Float) → n ≡ lesser count 8 → length values ≡ 8
    → Valued t n values r i → i < n → Joined r (next_bytes (get_or values i x)) o → o ≡ None → q ≡ None
    → Joined t (values_bytes (take count values)) q
values-cut {t} {i = i} count {values} x e l c h j f g =
    let a : Joined t (values_bytes (take (i + 1) values)) None = joined_as (one-on values x (omega arith)) (joined-then c.joined-so refl (record { is = sym f ∙ j.is })) in
    let k : take (i + 1) (take count values) ≡ take (i + 1) values = take-take (i + 1) count values (omega arith) in
    joined_as
    (ap (λ (vs : List Float). beside (values_bytes vs) (values_bytes (drop (i + 1) (take count values)))) (sym k)
    ∙ values-append (take (i + 1) (take count values)) (drop (i + 1) (take count values)) ∙ ap values_bytes (take-append-drop (i + 1) (take count values)))
    (joined-cut (values_bytes (drop (i + 1) (take count values))) a refl g)

pub values-end : {t r : LineText} {n i : ℕ} (count : ℕ) {values : List Float} → n ≡ lesser count 8 → length values ≡ 8 → Valued t n values r i → n ≤ i
    → Joined t (values_bytes (take count values)) (Some r)
values-end {i = i} count {values} e l c h =
    let k : i ≡ lesser count 8 = omega (arith, c.within) in
    joined_as (ap values_bytes (ap (λ (j : ℕ). take j values) k ∙ take_min values count 8 l)) c.joined-so
