-- The due lines go as document 01 says, and only one list goes so.
use mathlib.Core.Path.{◌≡◌, refl, sym, ◌∙◌, subst⁻¹}
use mathlib.Core.Bool.{Bool, true, false, ◌||◌, beq, or-true, true≢false}
use mathlib.Core.List.{List, [], ◌∷◌, ◌++◌, append_assoc, append-nil}
use mathlib.Core.Logic.{by_cases}
use Prim.Native.Nat.{ℕ, ◌*◌}
use native.Mathlib.Decide.{ℕ_discrete}
use borrow.Author.Tests.{not-false, ne_eqb}
use lib.Ieee.{Float, nan, inf, fin, up, down, level, lt, eq, le, is_nan}
use Rattle.base_timebase.proofs.Order.{lt-is, lt-le, lt_not_le, le_trans, le_lt_trans}
use Rattle.score_line.specs.declared.When.{When}
use Rattle.score_line.specs.declared.When.TheVariants.{Timed, Untimed}
use Rattle.score_line.specs.declared.Line.{Line}
use Rattle.player_model.specs.Lists.{filter, fold, All}
use Rattle.player_model.specs.Cycle.{earlier, insert, ordered}
use Rattle.player_model.specs.Results.{Rearranged, none, more, MayPrecede, InOrder, same_time, at_time, Goes, DueOrder, is_number, OneOrder}
use Rattle.player_model.proofs.Lists.{by-test, cond-true, cond-false, either_way, filter-append, filter_none, all_append, all-parts, all_map, all_filter}
use Rattle.player_model.proofs.Count.{all_insert}

-- ---- floats as numbers

refuted : (b : Bool) → (b ≡ true → ⊥) → b ≡ false
refuted true h = absurd (h refl)
refuted false h = refl

lt-itself : (x : Float) → lt x x ≡ false
lt-itself x = refuted (lt x x) (λ h. true≢false (sym (lt-le x x h) ∙ lt_not_le x x h))

lt_back : (x y : Float) → lt x y ≡ true → lt y x ≡ false
lt_back x y h = refuted (lt y x) (λ k. true≢false (sym (lt-le y x k) ∙ lt_not_le x y h))

pub eq-le : (x y : Float) → eq x y ≡ true → le x y ≡ true
unfolding le
eq-le x y h = rw h (or-true (lt x y))

beq-turned : (s t : Bool) → beq s t ≡ beq t s
beq-turned true true = refl
beq-turned true false = refl
beq-turned false true = refl
beq-turned false false = refl

level-turned : (s : Bool) (a : ℕ) (t : Bool) (b : ℕ) → level s a t b ≡ level t b s a
level-turned s a t b = by_cases (ℕ_discrete a b) (λ e. cc (beq-turned s t)) (λ n. cc (ne_eqb a b n, ne_eqb b a (λ e. n (sym e))))

eq_turned : (x y : Float) → eq x y ≡ eq y x
unfolding eq
eq_turned nan nan = refl
eq_turned nan (inf t) = refl
eq_turned nan (fin t n d) = refl
eq_turned (inf s) nan = refl
eq_turned (inf true) (inf true) = refl
eq_turned (inf true) (inf false) = refl
eq_turned (inf false) (inf true) = refl
eq_turned (inf false) (inf false) = refl
eq_turned (inf s) (fin t n d) = refl
eq_turned (fin s m e) nan = refl
eq_turned (fin s m e) (inf t) = refl
eq_turned (fin s m e) (fin t n d) = level-turned s (m * up e * down d) t (n * up d * down e)

pub eq-back : (x y : Float) → eq x y ≡ true → le y x ≡ true
eq-back x y h = eq-le y x (sym (eq_turned x y) ∙ h)

-- ---- one more line put in

early-may : (a b : When) → earlier a b ≡ true → MayPrecede a b
early-may (Timed p t) (Timed q u) h = lt_back t u h
early-may (Timed p t) Untimed h = tt
early-may Untimed b h = absurd (true≢false (sym h))

late-may : (a b : When) → earlier a b ≡ false → MayPrecede b a
late-may (Timed p t) (Timed q u) h = h
late-may (Timed p t) Untimed h = absurd (true≢false h)
late-may Untimed (Timed q u) h = tt
late-may Untimed Untimed h = tt

may-itself : (a : When) → MayPrecede a a
may-itself (Timed p t) = lt-itself t
may-itself Untimed = tt

early-first : (a b c : When) → earlier a b ≡ true → MayPrecede b c → MayPrecede a c
early-first (Timed p t) (Timed q u) (Timed r w) h k = refuted (lt w t) (λ e. true≢false (sym (le_lt_trans w t u (lt-le w t e) h) ∙ k))
early-first (Timed p t) (Timed q u) Untimed h k = tt
early-first (Timed p t) Untimed (Timed r w) h k = absurd k
early-first (Timed p t) Untimed Untimed h k = tt
early-first Untimed b c h k = absurd (true≢false (sym h))

not_same : (s a b c : When) → earlier a b ≡ true → MayPrecede b c → same_time s a ≡ true → same_time s c ≡ false
not_same (Timed o s) (Timed p t) (Timed q u) (Timed r w) h k e =
    refuted (eq s w) (λ f. true≢false (sym (le_lt_trans w t u (le_trans w s t (eq-back s w f) (eq-le s t e)) h) ∙ k))
not_same (Timed o s) (Timed p t) Untimed (Timed r w) h k e = absurd k
not_same (Timed o s) (Timed p t) b Untimed h k e = refl
not_same (Timed o s) Untimed b c h k e = absurd (true≢false (sym h))
not_same Untimed (Timed p t) b c h k e = absurd (true≢false (sym e))
not_same Untimed Untimed b c h k e = absurd (true≢false (sym h))

once_more : (x : Line) {xs : List Line} (before acc : List Line) → Rearranged xs (before ++ acc) → Rearranged (xs ++ (x ∷ [])) (before ++ insert x acc)
unfolding insert
once_more x before [] r = more x before [] r
once_more x {xs} before (y ∷ ys) r =
    either_way (λ (l : List Line). Rearranged (xs ++ (x ∷ [])) (before ++ l)) (earlier x.when y.when) (more x before (y ∷ ys) r)
    (rw append_assoc at (once_more x {xs = xs} (before ++ (y ∷ [])) ys (rw append_assoc r)))

in-order-more : (x : Line) (acc : List Line) → InOrder acc → InOrder (insert x acc)
unfolding insert
in-order-more x [] h = (tt, tt)
in-order-more x (y ∷ ys) h =
    by-test (earlier x.when y.when)
    (λ e. rw e ((early-may x.when y.when e, all_map _ _ (λ z. early-first x.when y.when z.when e) ys h.0), h))
    (λ e. rw e (all_insert (λ (z : Line). MayPrecede y.when z.when) x ys (late-may x.when y.when e) h.0, in-order-more x ys h.1))

-- no line of an earlier line's time stands behind a later one
none-there : (w : When) (x y : Line) (ys : List Line) → InOrder (y ∷ ys) → earlier x.when y.when ≡ true → same_time w x.when ≡ true → at_time w (y ∷ ys) ≡ []
none-there w x y ys h e q =
    filter_none (λ (l : Line). same_time w l.when) (y ∷ ys) (
      not_same w x.when y.when y.when e (may-itself y.when) q,
      all_map _ _ (λ z k. not_same w x.when y.when z.when e k q) ys h.0,
    )

at_more : (w : When) (x : Line) (acc : List Line) → InOrder acc → at_time w (insert x acc) ≡ at_time w acc ++ at_time w (x ∷ [])
unfolding insert filter
at_more w x [] h = refl
at_more w x (y ∷ ys) h =
    by-test (earlier x.when y.when)
    (λ e. by-test (same_time w x.when) (λ q. cc (none-there w x y ys h e q)) (λ q. cc (append-nil (at_time w (y ∷ ys)))))
    (λ e. by-test (same_time w y.when) (λ q. cc (at_more w x ys h.1)) (λ q. cc (at_more w x ys h.1)))

-- ---- all lines

onto : List Line → List Line → List Line
onto acc xs = fold (λ (before : List Line) (x : Line). insert x before) acc xs

onto-goes : (acc xs arrived : List Line) → Goes arrived acc → Goes (arrived ++ xs) (onto acc xs)
unfolding onto fold
onto-goes acc [] arrived g = rw append-nil g
onto-goes acc (x ∷ xs) arrived g =
    rw append_assoc at (onto-goes (insert x acc) xs (arrived ++ (x ∷ []))
    (record {
      once = once_more x [] acc g.once;
      by_time = in-order-more x acc g.by_time;
      by_arrival = λ w. cc (at_more w x acc g.by_time, g.by_arrival w, filter-append (λ (l : Line). same_time w l.when) arrived (x ∷ []));
    }))

pub due-order : DueOrder
unfolding DueOrder ordered onto
due-order arrived = onto-goes [] arrived [] (record { once = none; by_time = tt; by_arrival = λ w. refl })

-- ---- and no other list

all-rearranged : {A : Type 0} (P : A → Type 0) {xs ys : List A} → Rearranged xs ys → All P xs → All P ys
all-rearranged P none h = h
all-rearranged P (more {xs} x ys zs r) h =
    let a = all-parts P xs (x ∷ []) h in
    let b = all-parts P ys zs (all-rearranged P r a.0) in
    all_append P ys (x ∷ zs) b.0 (a.1.0, b.1)

same-turned : (a b : When) → same_time a b ≡ same_time b a
same-turned (Timed p t) (Timed q u) = eq_turned t u
same-turned (Timed p t) Untimed = refl
same-turned Untimed (Timed q u) = refl
same-turned Untimed Untimed = refl

neither : (t u : Float) → is_nan t ≡ false → is_nan u ≡ false → lt u t ≡ false → lt t u ≡ false → eq t u ≡ true
unfolding le
neither t u p q h k = let e : (lt t u || eq t u) ≡ true = not-false (le t u) (sym (lt-is t u p q) ∙ h) in cc

both_ways : (a b : When) → is_number a → is_number b → MayPrecede a b → MayPrecede b a → same_time a b ≡ true
both_ways (Timed p t) (Timed q u) m n h k = neither t u m n h k
both_ways (Timed p t) Untimed m n h k = absurd k
both_ways Untimed (Timed q u) m n h k = absurd h
both_ways Untimed Untimed m n h k = refl

same-itself : (a : When) → is_number a → same_time a a ≡ true
same-itself a n = both_ways a a n n (may-itself a) (may-itself a)

abbrev pub AllNumbers : List Line → Type 0
AllNumbers ls = All (λ (l : Line). is_number l.when) ls

-- a line that stands among those of its time stands behind the head
behind-head : (x : Line) {rest : List Line} (y : Line) (ys : List Line) → same_time x.when y.when ≡ false → InOrder (y ∷ ys)
    → x ∷ rest ≡ at_time x.when (y ∷ ys) → MayPrecede y.when x.when
unfolding filter
behind-head x y ys e h q =
    (subst⁻¹ (All (λ (z : Line). MayPrecede y.when z.when)) (q ∙ cond-false _ _ e) (all_filter (λ (z : Line). same_time x.when z.when) _ ys h.0)).0

at_head : (x : Line) (xs : List Line) (w : When) → same_time w x.when ≡ true → at_time w (x ∷ xs) ≡ x ∷ at_time w xs
unfolding filter
at_head x xs w e = cond-true _ _ e

heads : (x : Line) (xs : List Line) (y : Line) (ys : List Line) → is_number x.when → is_number y.when → InOrder (x ∷ xs) → InOrder (y ∷ ys)
    → ((w : When) → at_time w (x ∷ xs) ≡ at_time w (y ∷ ys)) → x ≡ y
heads x xs y ys m n h k q =
    let own : x ∷ at_time x.when xs ≡ at_time x.when (y ∷ ys) = sym (at_head x xs x.when (same-itself x.when m)) ∙ q x.when in
    let other : y ∷ at_time y.when ys ≡ at_time y.when (x ∷ xs) = sym (at_head y ys y.when (same-itself y.when n)) ∙ sym (q y.when) in
    by-test (same_time x.when y.when)
    (λ e. cc (at_head y ys x.when e))
    (λ e. cc (both_ways x.when y.when m n (behind-head y x xs (sym (same-turned x.when y.when) ∙ e) h other) (behind-head x y ys e k own)))

tails : (x y : Line) (xs ys : List Line) (w : When) → x ≡ y → at_time w (x ∷ xs) ≡ at_time w (y ∷ ys) → at_time w xs ≡ at_time w ys
unfolding filter
tails x y xs ys w e q = by-test (same_time w x.when) (λ t. cc) (λ t. cc)

pub alike : (a b : List Line) → AllNumbers a → AllNumbers b → InOrder a → InOrder b → ((w : When) → at_time w a ≡ at_time w b) → a ≡ b
unfolding filter
alike [] [] m n h k q = refl
alike [] (y ∷ ys) m n h k q = cc (q y.when, at_head y ys y.when (same-itself y.when n.0))
alike (x ∷ xs) [] m n h k q = cc (q x.when, at_head x xs x.when (same-itself x.when m.0))
alike (x ∷ xs) (y ∷ ys) m n h k q =
    let e = heads x xs y ys m.0 n.0 h k q in
    cc (e, alike xs ys m.1 n.1 h.1 k.1 (λ w. tails x y xs ys w e (q w)))

pub one-order : OneOrder
unfolding OneOrder
one-order arrived a b n g h =
    alike a b (all-rearranged _ g.once n) (all-rearranged _ h.once n) g.by_time h.by_time
    (λ w. g.by_arrival w ∙ sym (h.by_arrival w))
