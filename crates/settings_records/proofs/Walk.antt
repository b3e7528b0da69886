-- The walk over the records in use, and bytes laid at a place.
use mathlib.Core.Path.{◌≡◌, refl, sym, ap, ◌∙◌}
use mathlib.Core.Bool.{Bool, true, false, cond, true≢false}
use mathlib.Core.List.{List, ◌++◌}
use Prim.Native.Nat.{ℕ, zero, suc, ◌+◌, ◌*◌, ◌-◌, ◌≤◌, ◌<◌}
use native.Mathlib.Omega.{arith}
use lib.Dec.{ltb, eqb}
use lib.ListN.{length, take, drop, get_or, set, length-drop}
use lib.Seq.{take_all, paste, paste-zero, paste-suc, length-paste, take-length}
use borrow.Author.Tests.{eqb-true, ltb-false}
use Rattle.base_laws.proofs.Choice.{cond-true, cond-false}
use Rattle.base_answer.specs.Numbers.{is_taken}
use Rattle.base_answer.specs.declared.Answer.{Answer}
use Rattle.base_answer.specs.declared.Answer.TheVariants.{CutShort, OutOfRange, LeftOver, UnknownVersion}
use Rattle.settings_records.specs.declared.Setting.{Setting}
use Rattle.settings_records.specs.Form.{Found}
use Rattle.settings_records.specs.Form.{sixteen_bits, setting, found, refused_as}
use Rattle.settings_records.specs.inside.Reading.{within_of, judged_of, of_version, behind_length, found_in, walked, records_in}
use Rattle.settings_records.specs.Changes.{laid_at}

-- ---- a record that was found is all there, and has at least six bytes

pub record Fits (s : List ℕ) (f : Found) : Type 0 where
  pub least : is_taken f.answer ≡ true → 6 ≤ f.size
  pub most : is_taken f.answer ≡ true → f.size ≤ length s
  pub shape : is_taken f.answer ≡ true → f ≡ found f.setting f.size

refusal-fits : (s : List ℕ) (a : Answer) → is_taken a ≡ false → Fits s (refused_as a)
refusal-fits s a e = record { least = λ t. absurd (true≢false (sym t ∙ e)); most = λ t. omega arith; shape = λ t. absurd (true≢false (sym t ∙ e)) }

-- both ways of a test
pub by-test : (P : Found → Type 0) (b : Bool) (x y : Found) → (b ≡ true → P x) → (b ≡ false → P y) → P (cond b x y)
by-test P true x y f g = f refl
by-test P false x y f g = g refl

judged-fits : (s : List ℕ) (c n t size : ℕ) → 6 ≤ size → size ≤ length s → Fits s (judged_of c n t size)
unfolding judged_of
judged-fits s c n t size l h =
    let bad = refusal-fits s OutOfRange refl in
    by-test (Fits s) (within_of c 32767) _ _ (λ e. by-test (Fits s) (within_of n 16) _ _
    (λ e. by-test (Fits s) (within_of t 960) _ _ (λ e. record { least = λ u. l; most = λ u. h; shape = λ u. refl }) (λ e. bad)) (λ e. bad)) (λ e. bad)

pub found-fits : (s : List ℕ) → Fits s (found_in s)
unfolding found_in behind_length of_version
found-fits s =
    let k = sixteen_bits (get_or s 0 0) (get_or s 1 0) in
    let cut = refusal-fits s CutShort refl in
    let wrong = refusal-fits s LeftOver refl in
    by-test (Fits s) (ltb (length s) 2) _ _ (λ e. cut) (λ e. by-test (Fits s) (ltb (length s - 2) k) _ _ (λ f. cut)
    (λ f. by-test (Fits s) (eqb k 0) _ _ (λ g. wrong) (λ g. by-test (Fits s) (eqb (get_or s 2 0) 1) _ _
    (λ v. by-test (Fits s) (eqb k 4) _ _ (λ w. judged-fits s _ _ _ 6 (omega arith) (omega (arith, ltb-false (length s) 2 e, ltb-false (length s - 2) k f, eqb-true k 4 w))) (λ w. wrong))
    (λ v. by-test (Fits s) (eqb (get_or s 2 0) 2) _ _
    (λ u. by-test (Fits s) (eqb k 6) _ _ (λ w. judged-fits s _ _ _ 8 (omega arith) (omega (arith, ltb-false (length s) 2 e, ltb-false (length s - 2) k f, eqb-true k 6 w))) (λ w. wrong))
    (λ u. refusal-fits s UnknownVersion refl)))))

-- ---- the walk

-- what is left of the walk gives what the whole gives
pub record Walking (area : List ℕ) (used at : ℕ) (last : Setting) (n : ℕ) : Type 0 where
  pub left : ℕ
  pub count : n + left ≡ used
  pub inside : at ≤ length area
  pub long : 6 * n ≤ at
  pub same : walked left area at last ≡ records_in used area

pub walk_start : (area : List ℕ) (used : ℕ) → Walking area used 0 (setting 0 0 0) 0
walk_start area used = record { left = used; count = omega arith; inside = omega arith; long = omega arith; same = refl }

module _ {area : List ℕ} {used at : ℕ} {last : Setting} {n : ℕ} (w : Walking area used at last n) where
  one_more : n < used → (left : ℕ) → w.left ≡ left → (l : ℕ) × (w.left ≡ suc l)
  one_more h zero e = absurd (omega (arith, h, e, w.count))
  one_more h (suc l) e = (l, e)

  -- what was found there, and what that means for the walk
  module _ (h : n < used) where
    abbrev f : Found
    f = found_in (drop at area)

    pub walk-read : found_in (take (length area - at) (drop at area)) ≡ f
    walk-read = ap found_in (take_all (length area - at) (drop at area) (omega (arith, length-drop at area)))

    ahead : cond (is_taken f.answer) (walked (one_more h w.left refl).0 area (at + f.size) f.setting) (refused_as f.answer) ≡ records_in used area
    unfolding walked
    ahead =
        ap (λ (m : ℕ). walked m area at last) (sym (one_more h w.left refl).1) ∙ w.same

    pub walk-fault : is_taken f.answer ≡ false → refused_as f.answer ≡ records_in used area
    walk-fault t = sym (cond-false _ _ t) ∙ ahead

    pub walk-size : is_taken f.answer ≡ true → (6 ≤ f.size) × (at + f.size ≤ length area)
    walk-size t =
        let fits = found-fits (drop at area) in
        (fits.least t, omega (arith, fits.most t, length-drop at area, w.inside))

    pub walk-next : is_taken f.answer ≡ true → Walking area used (at + f.size) f.setting (n + 1)
    walk-next t =
        let x = one_more h w.left refl in
        let z = walk-size t in
        record {
          left = x.0;
          count = omega (arith, x.1, w.count);
          inside = z.1;
          long = omega (arith, w.long, z.0);
          same = sym (cond-true _ _ t) ∙ ahead;
        }

  pub walk_end : used ≤ n → found last at ≡ records_in used area
  unfolding walked
  walk_end h =
      let e : w.left ≡ 0 = omega (arith, w.count) in
      ap (λ (m : ℕ). walked m area at last) (sym e) ∙ w.same

-- so many records have at least six bytes each and end inside
pub record Ends (area : List ℕ) (n at : ℕ) (f : Found) : Type 0 where
  pub least : at + 6 * n ≤ f.size
  pub most : f.size ≤ length area

pub walked-ends : (n : ℕ) (area : List ℕ) (at : ℕ) (last : Setting) → at ≤ length area → is_taken (walked n area at last).answer ≡ true → Ends area n at (walked n area at last)
unfolding walked
walked-ends zero area at last h t = record { least = omega arith; most = h }
walked-ends (suc n) area at last h t =
    go (is_taken (found_in (drop at area)).answer) refl (λ i u. walked-ends n area (at + (found_in (drop at area)).size) (found_in (drop at area)).setting i u) t
  where
    f : Found
    f = found_in (drop at area)

    next : Found
    next = walked n area (at + f.size) f.setting

    go : (b : Bool) → is_taken f.answer ≡ b → (at + f.size ≤ length area → is_taken next.answer ≡ true → Ends area n (at + f.size) next)
        → is_taken (cond b next (refused_as f.answer)).answer ≡ true → Ends area (suc n) at (cond b next (refused_as f.answer))
    go true e rec t' =
        let g = found-fits (drop at area) in
        let r = rec (omega (arith, g.most e, length-drop at area)) t' in
        record { least = omega (arith, r.least, g.least e); most = r.most }
    go false e rec t' = absurd (true≢false (sym t' ∙ e))

pub records-end : (used : ℕ) (area : List ℕ) → is_taken (records_in used area).answer ≡ true → Ends area used 0 (records_in used area)
records-end used area t = walked-ends used area 0 (setting 0 0 0) (omega arith) t

-- ---- bytes laid at a place

pub record Laying (at : ℕ) (bytes area₀ area : List ℕ) (i : ℕ) : Type 0 where
  pub within : i ≤ length bytes
  pub room : at + length bytes ≤ length area₀
  pub same : area ≡ paste area₀ at bytes i

pub lay-start : (at : ℕ) (bytes area : List ℕ) → at + length bytes ≤ length area → Laying at bytes area area 0
lay-start at bytes area h = record { within = omega arith; room = h; same = paste-zero area at bytes }

module _ {at : ℕ} {bytes area₀ area : List ℕ} {i : ℕ} (l : Laying at bytes area₀ area i) where
  pub lay-length : length area ≡ length area₀
  lay-length = ap length l.same ∙ length-paste area₀ at bytes i (omega (arith, l.within, l.room)) l.within

  pub lay-next : i < length bytes → Laying at bytes area₀ (set area (at + i) (get_or bytes i 0)) (i + 1)
  lay-next h =
      let e : suc i ≡ i + 1 = omega arith in
      record {
        within = omega arith;
        room = l.room;
        same =
            ap (λ (x : List ℕ). set x (at + i) (get_or bytes i 0)) l.same ∙ paste-suc area₀ at bytes i 0 (omega (arith, l.room)) h
            ∙ ap (paste area₀ at bytes) e;
      }

  pub lay-end : length bytes ≤ i → area ≡ laid_at at bytes area₀
  unfolding laid_at
  lay-end h =
      let e : i ≡ length bytes = omega (arith, l.within) in
      l.same ∙ ap (paste area₀ at bytes) e ∙ ap (λ (x : List ℕ). take at area₀ ++ x ++ drop (at + length bytes) area₀) (take-length bytes)
