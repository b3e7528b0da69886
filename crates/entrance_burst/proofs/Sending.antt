-- The units of a burst, brought in one after the other.
use mathlib.Core.Path.{◌≡◌, refl, sym, ap, ◌∙◌, subst}
use mathlib.Core.Bool.{Bool, true, false, true≢false}
use mathlib.Core.List.{List, [], ◌∷◌}
use Prim.Native.Nat.{ℕ, suc, ◌+◌, ◌-◌, ◌≤◌, ◌<◌}
use native.Mathlib.Omega.{arith}
use lib.Dec.{leb}
use lib.ListN.{length, take, drop, get_or, set, length-take, drop_of_length-le}
use lib.Seq.{drop-cons, take-suc, take_all}
use borrow.Author.Tests.{le-leb, lt-leb}
use Rattle.base_answer.specs.Numbers.{number_of, is_taken}
use Rattle.base_answer.specs.declared.Answer.TheVariants as answer
use Rattle.score_bursts.specs.Bursts.{Burst, units, fault, units_in}
use Rattle.score_bursts.specs.inside.Reading.{burst_of, scan_of, scan_from, length_at}
use Rattle.score_bursts.specs.declared.BurstScan.{BurstScan}
use Rattle.score_bursts.proofs.Meaning.{Kind, is-units, is_cut, is-too-many, every-kind}
use Rattle.score_bursts.proofs.Walk.{Ahead, ahead-first, told-units, Next, ahead-next}
use Rattle.player_model.specs.Lists.{over}
use Rattle.player_model.specs.Calls.{unit, must_be_timed, reads}
use Rattle.player_model.proofs.Lists.{cond-true, cond-false}
use Rattle.player_model.proofs.Loops.{over-set, length_over}
use Rattle.player_queue.specs.declared.Queue.{Queue}
use Rattle.code_program.specs.declared.Instrument.{Instrument}
use Rattle.entrance_admission.specs.Submission.{submitted_in}
use Rattle.entrance_burst.specs.Singly.{singly_in, burst_submitted_in, area_in}
use Rattle.base_answer.specs.declared.AnsweredLine.{AnsweredLine}

-- the first of a list and the others
first-same : {x y : ℕ} {xs ys : List ℕ} → x ∷ xs ≡ y ∷ ys → x ≡ y
first-same e = ap (λ (l : List ℕ). get_or l 0 0) e

rest-same : {x y : ℕ} {xs ys : List ℕ} → x ∷ xs ≡ y ∷ ys → xs ≡ ys
rest-same e = ap (drop 1) e

-- what the first pass told, of the whole
pub burst-taken : (s : List ℕ) (c : BurstScan) → c ≡ scan_of (burst_of s) → is_taken c.answer ≡ true → is_taken (scan_of (burst_of s)).answer ≡ true
burst-taken s c e t = ap (λ (x : BurstScan). is_taken x.answer) (sym e) ∙ t

module _ (ended : Bool) (table : List Instrument) where
  pub length-numbers : (us : List (List ℕ)) (q : Queue) → length (singly_in ended table q us).numbers ≡ length us
  unfolding singly_in
  length-numbers [] q = refl
  length-numbers (u ∷ us) q = ap suc (length-numbers us _)

  -- a loop over m units: those from i on lie ahead and do what is left of the whole, and the answers of those before stand in their places
  pub record Sending (old : Queue) (s : List ℕ) (us : List (List ℕ)) (m : ℕ) (area₀ : List ℕ) (q : Queue) (at i : ℕ) (area : List ℕ) : Type 0 where
    pub most : m ≡ length us
    pub wide : m ≤ length area₀
    pub small : i ≤ m
    pub ahead : Ahead (drop at s) (drop i us)
    pub queue : (singly_in ended table q (drop i us)).queue ≡ (singly_in ended table old us).queue
    pub numbers : (singly_in ended table q (drop i us)).numbers ≡ drop i (singly_in ended table old us).numbers
    pub here : area ≡ over (take i (singly_in ended table old us).numbers) area₀

  module _ (old : Queue) (s : List ℕ) (m : ℕ) (area₀ : List ℕ) where
    abbrev us : List (List ℕ)
    us = units_in (burst_of s)

    abbrev all : List ℕ
    all = (singly_in ended table old us).numbers

    pub send-start : is_taken (scan_of (burst_of s)).answer ≡ true → m ≡ length us → m ≤ length area₀ → Sending old s us m area₀ old 0 0 area₀
    send-start t e w = record { most = e; wide = w; small = omega arith; ahead = ahead-first s t; queue = refl; numbers = refl; here = refl }

    pub send-length : (q : Queue) (at i : ℕ) (area : List ℕ) → Sending old s us m area₀ q at i area → length area ≡ length area₀
    send-length q at i area x =
        ap length x.here ∙ length_over (take i all) area₀ (omega (arith, length-take i all, x.small, x.wide))

    pub send-place : (q : Queue) (at i : ℕ) (area : List ℕ) → i < m → Sending old s us m area₀ q at i area → i < length area
    send-place q at i area h x = omega (arith, send-length q at i area x, x.wide)

    module _ (q : Queue) (at i : ℕ) (area : List ℕ) (h : i < m) (x : Sending old s us m area₀ q at i area) (k : ℕ) (e : k ≡ length_at (drop at s)) where
      front : drop i us ≡ get_or us i [] ∷ drop (suc i) us
      front = drop-cons us i [] (omega (arith, x.most))

      next : Next s at k (get_or us i []) (drop (suc i) us)
      next = ahead-next s at k (get_or us i []) (drop (suc i) us) e (subst (Ahead (drop at s)) front x.ahead)

      pub send-inside : at + 2 + k ≤ length s
      send-inside = next.inside

      pub send-next : (r : AnsweredLine Queue) → r ≡ submitted_in ended (must_be_timed unit) table q (reads unit (take (at + 2 + k - (at + 2)) (drop (at + 2) s)))
          → (v : ℕ) → v ≡ number_of r.answer → Sending old s us m area₀ r.left (at + 2 + k) (i + 1) (set area i v)
      unfolding singly_in
      send-next r er v ev =
          let same : at + 2 + k - (at + 2) ≡ k = omega arith in
          let is-unit : r ≡ submitted_in ended (must_be_timed unit) table q (reads unit (get_or us i [])) =
          er ∙ ap (λ (b : List ℕ). submitted_in ended (must_be_timed unit) table q (reads unit b)) (ap (λ (n : ℕ). take n (drop (at + 2) s)) same ∙ next.is-unit) in
          let one : suc i ≡ i + 1 = omega arith in
          let count : length all ≡ length us = length-numbers us old in
          let short : i < length all = omega (arith, h, x.most, count) in
          let size : length (take i all) ≡ i = length-take i all ∙ omega (arith, short) in
          let rest : number_of r.answer ∷ (singly_in ended table r.left (drop (suc i) us)).numbers ≡ get_or all i 0 ∷ drop (suc i) all =
          ap (λ (y : AnsweredLine Queue). number_of y.answer ∷ (singly_in ended table y.left (drop (suc i) us)).numbers) is-unit
          ∙ ap (λ (l : List (List ℕ)). (singly_in ended table q l).numbers) (sym front) ∙ x.numbers ∙ drop-cons all i 0 short in
          record {
            most = x.most;
            wide = x.wide;
            small = omega arith;
            ahead = subst (λ (n : ℕ). Ahead (drop (at + 2 + k) s) (drop n us)) one next.ahead;
            queue =
                ap (λ (n : ℕ). (singly_in ended table r.left (drop n us)).queue) (sym one)
                ∙ ap (λ (y : AnsweredLine Queue). (singly_in ended table y.left (drop (suc i) us)).queue) is-unit
                ∙ ap (λ (l : List (List ℕ)). (singly_in ended table q l).queue) (sym front) ∙ x.queue;
            numbers = ap (λ (n : ℕ). (singly_in ended table r.left (drop n us)).numbers) (sym one) ∙ rest-same rest ∙ ap (λ (n : ℕ). drop n all) one;
            here =
                (λ j. set (x.here j) (sym size j) ((ev ∙ first-same rest) j))
                ∙ over-set (take i all) area₀ (get_or all i 0) (omega (arith, size, h, x.wide))
                ∙ ap (λ (l : List ℕ). over l area₀) (sym (take-suc all i 0 short) ∙ ap (λ (n : ℕ). take n all) one);
          }

    module _ (q : Queue) (at i : ℕ) (area : List ℕ) (h : m ≤ i) (x : Sending old s us m area₀ q at i area) where
      pub send-queue : q ≡ (singly_in ended table old us).queue
      unfolding singly_in
      send-queue = ap (λ (l : List (List ℕ)). (singly_in ended table q l).queue) (sym (drop_of_length-le us {i = i} (omega (arith, x.most, h)))) ∙ x.queue

      pub send-area : area ≡ over all area₀
      send-area = x.here ∙ ap (λ (l : List ℕ). over l area₀) (take_all i all (omega (arith, length-numbers us old, x.most, h)))

  -- ---- the whole call

  module _ (q : Queue) (s : List ℕ) (c : BurstScan) (e : c ≡ scan_of (burst_of s)) where
    -- a burst that is refused
    fault-is : (b : Burst) → Kind b → is_taken (scan_of b).answer ≡ false → (b ≡ fault (scan_of b).answer)
    unfolding scan_from
    fault-is b (is-units us) t = absurd (true≢false t)
    fault-is b is_cut t = refl
    fault-is b is-too-many t = refl

    refused-is : is_taken c.answer ≡ false → burst_of s ≡ fault c.answer
    refused-is t =
        fault-is (burst_of s) (every-kind s) (ap (λ (x : BurstScan). is_taken x.answer) (sym e) ∙ t) ∙ ap (λ (x : BurstScan). fault x.answer) (sym e)

    pub sent-fault : (places : ℕ) → is_taken c.answer ≡ false → record { left = q; answer = c.answer; units = 0 } ≡ burst_submitted_in ended table q places (burst_of s)
    unfolding burst_submitted_in
    sent-fault places t = ap (burst_submitted_in ended table q places) (sym (refused-is t))

    pub area-fault : (area : List ℕ) → is_taken c.answer ≡ false → area ≡ area_in ended table q area (burst_of s)
    unfolding area_in
    area-fault area t = ap (area_in ended table q area) (sym (refused-is t))

    module _ (t : is_taken c.answer ≡ true) where
      whole_is : {b : Burst} → Kind b → is_taken (scan_of b).answer ≡ true → b ≡ units (units_in b)
      unfolding scan_from
      whole_is (is-units us) h = refl
      whole_is is_cut h = absurd (true≢false (sym h))
      whole_is is-too-many h = absurd (true≢false (sym h))

      whole : burst_of s ≡ units (units_in (burst_of s))
      whole = whole_is (every-kind s) (burst-taken s c e t)

      count : c.units ≡ length (units_in (burst_of s))
      count = told-units s c e t

      few : (places : ℕ) → places < c.units → leb (length (units_in (burst_of s))) places ≡ false
      few places l = lt-leb (length (units_in (burst_of s))) places (omega (arith, l, count))

      pub sent-short : (places : ℕ) → places < c.units → record { left = q; answer = answer.NoRoom; units = 0 } ≡ burst_submitted_in ended table q places (burst_of s)
      unfolding burst_submitted_in
      sent-short places l = sym (ap (burst_submitted_in ended table q places) whole ∙ cond-false _ _ (few places l))

      pub area-short : (area : List ℕ) → length area < c.units → area ≡ area_in ended table q area (burst_of s)
      unfolding area_in
      area-short area l = sym (ap (area_in ended table q area) whole ∙ cond-false _ _ (few (length area) l))

      enough : (places : ℕ) → c.units ≤ places → leb (length (units_in (burst_of s))) places ≡ true
      enough places l = le-leb (length (units_in (burst_of s))) places (omega (arith, l, count))

      pub sent-whole : (places : ℕ) → c.units ≤ places → (left : Queue) → left ≡ (singly_in ended table q (units_in (burst_of s))).queue
          → record { left = left; answer = answer.Taken; units = c.units } ≡ burst_submitted_in ended table q places (burst_of s)
      unfolding burst_submitted_in
      sent-whole places l left k =
          (λ i. record { left = k i; answer = answer.Taken; units = count i }) ∙ sym (ap (burst_submitted_in ended table q places) whole ∙ cond-true _ _ (enough places l))

      pub area-whole : (area : List ℕ) → c.units ≤ length area → (after : List ℕ) → after ≡ over (singly_in ended table q (units_in (burst_of s))).numbers area
          → after ≡ area_in ended table q area (burst_of s)
      unfolding area_in
      area-whole area l after k = k ∙ sym (ap (area_in ended table q area) whole ∙ cond-true _ _ (enough (length area) l))
