-- Bytes pushed: the ways through the functions that push, and what a line of text then holds. Assumes nothing.
use Prim.Native.Nat.{ℕ, zero, suc, ◌+◌, ◌-◌, ◌/◌, ◌%◌, ◌^◌, ◌≤◌, ◌<◌}
use native.Mathlib.Nat.{add-zero}
use native.Mathlib.Numerals.{add-one}
use native.Mathlib.Omega.{arith}
use mathlib.Core.Path.{◌≡◌, refl, sym, ap, ◌∙◌, subst}
use mathlib.Core.Bool.{Bool, true, false}
use mathlib.Core.List.{List, [], ◌∷◌, ◌++◌, append-nil, append_assoc}
use borrow.Author.Tests.{lt-ltb, le-ltb}
use lib.ListN.{length, take, drop, set, get_or, length-set, drop_of_length-le}
use lib.Seq.{take-suc-set, drop-cons}
use Rattle.base_laws.proofs.Choice.{cond-true, cond-false}
use Rattle.text_numerals.specs.Numeral.{digit_bytes, sign_bytes, decimal_bytes, encoded, lowest, width_of, decimal, numeral_of, name_bytes}
use Rattle.text_number_writer.specs.Push.{line_room, pushed, push_all, content_of, PushAppends}
use Rattle.text_number_writer.specs.declared.LineText.{LineText}

pub push-room : (t : LineText) (b : ℕ) → t.len < line_room → pushed t b ≡ record { bytes = set t.bytes t.len b; len = t.len + 1 }
unfolding pushed
push-room t b h = cond-true _ t (lt-ltb t.len line_room h)

pub push-full : (t : LineText) (b : ℕ) → line_room ≤ t.len → pushed t b ≡ t
unfolding pushed
push-full t b h = cond-false _ t (le-ltb t.len line_room h)

pub push-append : (t : LineText) (xs ys : List ℕ) → push_all t (xs ++ ys) ≡ push_all (push_all t xs) ys
unfolding push_all
push-append t [] ys = refl
push-append t (x ∷ xs) ys = push-append (pushed t x) xs ys

-- ---- loops: what is left to push gives the same line
pub word-again : (i : ℕ) (bs : List ℕ) (t : LineText) {u w : LineText} → i < length bs → u ≡ pushed t (get_or bs i 0) → push_all t (drop i bs) ≡ w → push_all u (drop (i + 1) bs) ≡ w
unfolding push_all
word-again i bs t h e f = (λ z. push_all (e z) (drop (add-one i z) bs)) ∙ ap (push_all t) (sym (drop-cons bs i 0 h)) ∙ f

pub word-ends : (i : ℕ) (bs : List ℕ) (t : LineText) {w : LineText} → length bs ≤ i → push_all t (drop i bs) ≡ w → t ≡ w
unfolding push_all
word-ends i bs t h f = sym (ap (push_all t) (drop_of_length-le bs h)) ∙ f

pub digits-again : (n j b : ℕ) (t : LineText) {u w : LineText} → 0 < j → b ≡ 48 + n / 10 ^ (j - 1) % 10 → u ≡ pushed t b → push_all t (digit_bytes (lowest j n)) ≡ w
    → push_all u (digit_bytes (lowest (j - 1) n)) ≡ w
unfolding push_all digit_bytes lowest
digits-again n zero b t h e f r = absurd (let z : 1 ≤ 0 = h in omega arith)
digits-again n (suc j) b t h e f r =
    let z : suc j - 1 ≡ j = omega arith in
    rw (f, e, z) r

pub digits-end : (n j : ℕ) (t : LineText) {w : LineText} → j ≤ 0 → push_all t (digit_bytes (lowest j n)) ≡ w → t ≡ w
unfolding push_all digit_bytes lowest
digits-end n zero t h r = r
digits-end n (suc j) t h r = absurd (let z : suc j ≤ 0 = h in omega arith)

-- ---- a number and a name
pub sign-plain : (s : Bool) (t : LineText) → s ≡ false → t ≡ push_all t (sign_bytes s)
unfolding push_all sign_bytes
sign-plain s t e = ap (λ (b : Bool). push_all t (sign_bytes b)) (sym e)

pub sign-minus : (s : Bool) (t r : LineText) → s ≡ true → r ≡ pushed t 45 → r ≡ push_all t (sign_bytes s)
unfolding push_all sign_bytes
sign-minus s t r e f = f ∙ ap (λ (b : Bool). push_all t (sign_bytes b)) (sym e)

pub no-decimals : (t : LineText) (n d : ℕ) → d ≡ 0 → t ≡ push_all t (decimal_bytes (lowest d n))
unfolding push_all decimal_bytes lowest
no-decimals t n d e = ap (λ (k : ℕ). push_all t (decimal_bytes (lowest k n))) (sym e)

pub some-decimals : (t u r : LineText) (n d : ℕ) → (d ≡ 0 → ⊥) → u ≡ pushed t 46 → r ≡ push_all u (digit_bytes (lowest d n)) → r ≡ push_all t (decimal_bytes (lowest d n))
unfolding push_all decimal_bytes lowest
some-decimals t u r n zero h e f = absurd (h refl)
some-decimals t u r n (suc d) h e f = f ∙ ap (λ (x : LineText). push_all x (digit_bytes (lowest (suc d) n))) e

pub whole_is : (t r : LineText) (n w : ℕ) → (w ≡ width_of n) × (w ≤ 8) → r ≡ push_all t (digit_bytes (lowest w n)) → r ≡ push_all t (digit_bytes (decimal n))
unfolding decimal
whole_is t r n w e f = f ∙ ap (λ (k : ℕ). push_all t (digit_bytes (lowest k n))) e.0

pub name-is : (t u r : LineText) (symbol : ℕ) → u ≡ pushed t 115 → r ≡ push_all u (digit_bytes (decimal symbol)) → r ≡ push_all t (name_bytes symbol)
unfolding push_all name_bytes
name-is t u r symbol e f = f ∙ ap (λ (x : LineText). push_all x (digit_bytes (decimal symbol))) e

pub number_is : (t u v r : LineText) (s : Bool) (n d k p : ℕ) → d ≡ k → (p ≡ 10 ^ d) × (0 < p) → u ≡ push_all t (sign_bytes s) → v ≡ push_all u (digit_bytes (decimal (n / p)))
    → r ≡ push_all v (decimal_bytes (lowest d n)) → r ≡ push_all t (encoded (numeral_of s n k))
unfolding encoded numeral_of
number_is t u v r s n d k p z q e f g =
    let xs = digit_bytes (decimal (n / 10 ^ d)) in
    let ys = decimal_bytes (lowest d n) in
    cc (q.0, push-append (push_all t (sign_bytes s)) xs ys, push-append t (sign_bytes s) (xs ++ ys))

-- ---- what a line of text holds
pub push-appends : PushAppends
unfolding push_all
push-appends t [] r h = record { content = sym (append-nil (content_of t)); len = sym (add-zero t.len); room = r }
push-appends t (b ∷ bs) r h =
    let k : t.len < line_room = omega arith in
    let p = push-room t b k in
    let a = push-appends (pushed t b) bs (ap (λ (x : LineText). length x.bytes) p ∙ length-set t.bytes t.len b ∙ r) (subst (λ (x : LineText). x.len + length bs ≤ line_room) (sym p) (omega arith)) in
    let one : content_of (pushed t b) ≡ content_of t ++ (b ∷ []) =
    ap content_of p ∙ ap (λ (n : ℕ). take n (set t.bytes t.len b)) (add-one t.len) ∙ take-suc-set t.bytes t.len b (rw r k) in
    record { content = cc (a.content, append_assoc (content_of t) (b ∷ []) bs); len = a.len ∙ ap (λ (x : LineText). x.len + length bs) p ∙ omega arith; room = a.room }
