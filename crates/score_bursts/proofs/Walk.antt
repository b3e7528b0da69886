-- A walk over a burst's bytes, unit by unit: the pass that judges them, and what lies ahead of the pass over the units.
use mathlib.Core.Path.{◌≡◌, refl, sym, ap, ◌∙◌, subst⁻¹}
use mathlib.Core.Bool.{Bool, true, false, true≢false, cond}
use mathlib.Core.List.{List, [], ◌∷◌, ◌++◌}
use Prim.Native.Nat.{ℕ, zero, suc, ◌+◌, ◌-◌, ◌≤◌, ◌<◌}
use native.Mathlib.Omega.{arith}
use lib.Dec.{leb}
use lib.ListN.{length, take, drop, get_or, length-append, length-drop, drop_of_length-le}
use lib.Seq.{drop-cons, drop-drop, take-append_seam, drop-append_seam}
use borrow.Author.Tests.{le-leb, lt-leb}
use Rattle.base_answer.specs.Numbers.{is_taken}
use Rattle.base_answer.specs.declared.Answer.TheVariants.{Taken, CutShort, TooManyValues}
use Rattle.score_bursts.specs.Bursts.{Burst, units, fault, most_units, sixteen_bits, before, Parses, nothing, unit, cut_length, cut_unit, too_many, units_in}
use Rattle.score_bursts.specs.inside.Reading.{behind_last, first_of, burst_from, burst_of, scan_from, scan_of, length_at}
use Rattle.score_bursts.specs.declared.BurstScan.{BurstScan}
use Rattle.score_bursts.proofs.Meaning.{Kind, is-units, is_cut, is-too-many, every-kind, every-burst, nothing-there}

-- ---- the length at a place

two_bytes : (s : List ℕ) (at : ℕ) → at + 2 ≤ length s → drop at s ≡ get_or s at 0 ∷ get_or s (at + 1) 0 ∷ drop (at + 2) s
two_bytes s at h =
    let one : suc at ≡ at + 1 = omega arith in
    let two : suc (at + 1) ≡ at + 2 = omega arith in
    drop-cons s at 0 (omega arith)
    ∙ ap (λ (l : List ℕ). get_or s at 0 ∷ l)
    (ap (λ (n : ℕ). drop n s) one ∙ drop-cons s (at + 1) 0 (omega arith) ∙ ap (λ (n : ℕ). get_or s (at + 1) 0 ∷ drop n s) two)

length-there : (s : List ℕ) (at : ℕ) → at + 2 ≤ length s → length_at (drop at s) ≡ sixteen_bits (get_or s at 0) (get_or s (at + 1) 0)
unfolding length_at
length-there s at h = ap length_at (two_bytes s at h)

too_few : (bs : List ℕ) → length bs < 2 → length_at bs ≡ 0
unfolding length_at
too_few [] h = refl
too_few (b ∷ []) h = refl
too_few (b ∷ c ∷ bs) h = absurd (omega arith)

length_none : (s : List ℕ) (at : ℕ) → length s < at + 2 → 0 ≡ length_at (drop at s)
length_none s at h = sym (too_few (drop at s) (omega (arith, length-drop at s)))

-- each way through the function that finds it
module _ (s : List ℕ) (at : ℕ) where
  pub few : length s < 2 → 0 ≡ length_at (drop at s)
  few h = length_none s at (omega arith)

  pub past : 2 ≤ length s → length s - 2 < at → 0 ≡ length_at (drop at s)
  past h l = length_none s at (omega arith)

  pub there : 2 ≤ length s → at ≤ length s - 2 → (k : ℕ) → k ≡ sixteen_bits (get_or s at 0) (get_or s (at + 1) 0) → k ≡ length_at (drop at s)
  there h l k e = e ∙ sym (length-there s at (omega arith))

-- ---- the first pass

told-before : (n : ℕ) (u : List ℕ) (b : Burst) → scan_from n (before u b) ≡ scan_from (n + 1) b
unfolding scan_from before
told-before n u (units us) = let e : n + suc (length us) ≡ n + 1 + length us = omega arith in ap (λ (k : ℕ). record { answer = Taken; units = k }) e
told-before n u (fault a) = refl

-- what is left to judge gives what the whole gives
pub record Judging (s : List ℕ) (at n : ℕ) : Type 0 where
  pub left : ℕ
  pub count : n + left ≡ most_units
  pub inside : at ≤ length s
  pub same : scan_from n (burst_from left (drop at s)) ≡ scan_of (burst_of s)

pub judge-start : (s : List ℕ) → Judging s 0 0
judge-start s = record { left = most_units; count = refl; inside = omega arith; same = refl }

module _ (s : List ℕ) (at n : ℕ) (j : Judging s at n) where
  -- what is left, by how many units may come and by the bytes ahead
  by_left : (left : ℕ) (bs : List ℕ) → j.left ≡ left → drop at s ≡ bs → scan_from n (burst_from left bs) ≡ scan_of (burst_of s)
  by_left left bs e q = (λ i. scan_from n (burst_from (sym e i) (sym q i))) ∙ j.same

  more_left : (n ≡ most_units → ⊥) → (left : ℕ) → j.left ≡ left → (l : ℕ) × (j.left ≡ suc l)
  more_left f zero e = absurd (f (omega (arith, e, j.count)))
  more_left f (suc l) e = (l, e)

  pub judge-many : at < length s → n ≡ most_units → record { answer = TooManyValues; units = 0 } ≡ scan_of (burst_of s)
  unfolding burst_from behind_last scan_from
  judge-many h e = by_left 0 (get_or s at 0 ∷ drop (suc at) s) (omega (arith, e, j.count)) (drop-cons s at 0 h)

  module _ (h : at < length s) (f : n ≡ most_units → ⊥) where
    pub judge-cut-length : length s - at < 2 → record { answer = CutShort; units = 0 } ≡ scan_of (burst_of s)
    unfolding burst_from first_of scan_from
    judge-cut-length l =
        let x = more_left f j.left refl in
        let e : drop (suc at) s ≡ [] = drop_of_length-le s {i = suc at} (omega arith) in
        by_left (suc x.0) (get_or s at 0 ∷ []) x.1 (drop-cons s at 0 h ∙ ap (λ (t : List ℕ). get_or s at 0 ∷ t) e)

    module _ (w : 2 ≤ length s - at) (k : ℕ) (q : k ≡ length_at (drop at s)) where
      is-length : k ≡ sixteen_bits (get_or s at 0) (get_or s (at + 1) 0)
      is-length = q ∙ length-there s at (omega arith)

      behind : length (drop (at + 2) s) ≡ length s - at - 2
      behind = length-drop (at + 2) s ∙ omega arith

      -- the unit ahead, where all of it is there and where it is cut
      unit-ahead : (b : Bool) → leb k (length (drop (at + 2) s)) ≡ b
          → scan_from n (cond b (before (take k (drop (at + 2) s)) (burst_from (more_left f j.left refl).0 (drop k (drop (at + 2) s)))) (fault CutShort)) ≡ scan_of (burst_of s)
      unfolding burst_from first_of
      unit-ahead b e =
          let x = more_left f j.left refl in
          let r = drop (at + 2) s in
          ap (λ (t : Bool). scan_from n (cond t (before (take k r) (burst_from x.0 (drop k r))) (fault CutShort))) (sym e)
          ∙ ap (λ (m : ℕ). scan_from n (cond (leb m (length r)) (before (take m r) (burst_from x.0 (drop m r))) (fault CutShort))) is-length
          ∙ by_left (suc x.0) (get_or s at 0 ∷ get_or s (at + 1) 0 ∷ r) x.1 (two_bytes s at (omega arith))

      pub judge-cut-unit : length s - at - 2 < k → record { answer = CutShort; units = 0 } ≡ scan_of (burst_of s)
      unfolding scan_from
      judge-cut-unit l = unit-ahead false (lt-leb k (length (drop (at + 2) s)) (omega (arith, l, behind)))

      pub judge-next : k ≤ length s - at - 2 → Judging s (at + (2 + k)) (n + 1)
      judge-next l =
          let x = more_left f j.left refl in
          let r = drop (at + 2) s in
          let place : at + 2 + k ≡ at + (2 + k) = omega arith in
          record {
            left = x.0;
            count = omega (arith, x.1, j.count);
            inside = omega arith;
            same =
                ap (λ (t : List ℕ). scan_from (n + 1) (burst_from x.0 t)) (ap (λ (m : ℕ). drop m s) (sym place) ∙ sym (drop-drop k (at + 2) s))
                ∙ sym (told-before n (take k r) (burst_from x.0 (drop k r)))
                ∙ unit-ahead true (le-leb k (length r) (omega (arith, l, behind)));
          }

  pub judge-end : length s ≤ at → record { answer = Taken; units = n } ≡ scan_of (burst_of s)
  unfolding scan_from
  judge-end h =
      let e : n ≡ n + 0 = omega arith in
      ap (λ (k : ℕ). record { answer = Taken; units = k }) e ∙ ap (scan_from n) (sym (nothing-there j.left)) ∙ by_left j.left [] refl (drop_of_length-le s h)

-- ---- the units of a burst that is whole

-- these units lie ahead, each behind its length, and nothing behind them
pub data Ahead : List ℕ → List (List ℕ) → Type 0 where
  done : Ahead [] []
  more : {high low : ℕ} {u rest : List ℕ} {us : List (List ℕ)} → sixteen_bits high low ≡ length u → Ahead rest us → Ahead (high ∷ low ∷ (u ++ rest)) (u ∷ us)

IsUnits : Burst → Type 0
IsUnits (units us) = Unit {0}
IsUnits (fault a) = ⊥

ahead_before : {high low : ℕ} (u : List ℕ) {rest : List ℕ} (b : Burst) → sixteen_bits high low ≡ length u → (IsUnits b → Ahead rest (units_in b)) → IsUnits (before u b)
    → Ahead (high ∷ low ∷ (u ++ rest)) (units_in (before u b))
unfolding before IsUnits
ahead_before u (units us) e f t = more e (f tt)
ahead_before u (fault a) e f t = absurd t

ahead-said : {n : ℕ} {bs : List ℕ} {b : Burst} → Parses n bs b → IsUnits b → Ahead bs (units_in b)
unfolding IsUnits
ahead-said nothing t = done
ahead-said (unit u b e s) t = ahead_before u b e (λ h. ahead-said s h) t
ahead-said cut_length t = absurd t
ahead-said (cut_unit l) t = absurd t
ahead-said too_many t = absurd t

is_whole : {b : Burst} → Kind b → is_taken (scan_of b).answer ≡ true → IsUnits b
unfolding scan_from IsUnits
is_whole (is-units us) t = tt
is_whole is_cut t = absurd (true≢false (sym t))
is_whole is-too-many t = absurd (true≢false (sym t))

pub ahead-first : (s : List ℕ) → is_taken (scan_of (burst_of s)).answer ≡ true → Ahead s (units_in (burst_of s))
ahead-first s t = ahead-said (every-burst s) (is_whole (every-kind s) t)

-- how many they are
pub told-units : (s : List ℕ) (c : BurstScan) → c ≡ scan_of (burst_of s) → is_taken c.answer ≡ true → c.units ≡ length (units_in (burst_of s))
unfolding scan_from
told-units s c q t = ap (λ (x : BurstScan). x.units) q ∙ go (every-kind s) (ap (λ (x : BurstScan). is_taken x.answer) (sym q) ∙ t)
  where
    go : {b : Burst} → Kind b → is_taken (scan_of b).answer ≡ true → (scan_of b).units ≡ length (units_in b)
    go (is-units us) h = omega arith
    go is_cut h = refl
    go is-too-many h = refl

-- the next of them
pub record Next (s : List ℕ) (at k : ℕ) (u : List ℕ) (us : List (List ℕ)) : Type 0 where
  pub inside : at + 2 + k ≤ length s
  pub is-unit : take k (drop (at + 2) s) ≡ u
  pub ahead : Ahead (drop (at + 2 + k) s) us

ahead-from : (s bs : List ℕ) (at : ℕ) (u : List ℕ) (us : List (List ℕ)) → drop at s ≡ bs → Ahead bs (u ∷ us) → Next s at (length_at bs) u us
unfolding length_at
ahead-from s _ at _ _ q (more {high} {low} {u} {rest} {us} e a) =
    let r : drop (at + 2) s ≡ u ++ rest = sym (drop-drop 2 at s) ∙ ap (drop 2) q in
    let long : length (drop at s) ≡ suc (suc (length (u ++ rest))) = ap length q in
    record {
      inside = omega (arith, e, long, length-drop at s, length-append u rest);
      is-unit = ap (take (sixteen_bits high low)) r ∙ ap (λ (k : ℕ). take k (u ++ rest)) e ∙ take-append_seam u rest;
      ahead =
          subst⁻¹ (λ (l : List ℕ). Ahead l us)
          (sym (drop-drop (sixteen_bits high low) (at + 2) s) ∙ ap (drop (sixteen_bits high low)) r ∙ ap (λ (k : ℕ). drop k (u ++ rest)) e ∙ drop-append_seam u rest) a;
    }

pub ahead-next : (s : List ℕ) (at k : ℕ) (u : List ℕ) (us : List (List ℕ)) → k ≡ length_at (drop at s) → Ahead (drop at s) (u ∷ us) → Next s at k u us
ahead-next s at k u us e a = subst⁻¹ (λ (x : ℕ). Next s at x u us) e (ahead-from s (drop at s) at u us refl a)
