-- Every call has a verdict, whatever was called before.
use mathlib.Core.Path.{◌≡◌, refl, ◌∙◌, subst}
use mathlib.Core.Bool.{Bool, true, false, not, cond, ◌&&◌}
use mathlib.Core.List.{List, [], ◌∷◌, ◌++◌}
use Prim.Native.Nat.{ℕ, suc, ◌+◌}
use native.Mathlib.Omega.{arith}
use lib.IntN.{ℤ}
use lib.ListN.{length}
use lib.Dec.{eqb, ltb, leb}
use borrow.Author.Tests.{ltb-true, ltb-false, leb-true, leb-false, eqb-true, eqb-false, not-true, not-false}
use Rattle.base_answer.specs.Numbers.{number_of, is_taken}
use Rattle.settings_records.specs.Form as settings
use Rattle.settings_records.specs.inside.Reading.{found_in, records_in}
use Rattle.settings_records.specs.Changes.{area_bytes}
use Rattle.settings_records.proofs.Walk.{found-fits}
use Rattle.settings_records.proofs.Meaning.{every-record}
use Rattle.settings_records.proofs.Areas.{content-refused, all-valid, first-fault}
use Rattle.base_laws.proofs.Choice.{both_true}
use Rattle.base_answer.specs.declared.Answer as kind
use Rattle.base_answer.specs.declared.Answer.TheVariants as answer
use Rattle.score_line.specs.declared.Line.{Line}
use Rattle.text_format.specs.inside.Reading.{lines}
use Rattle.orchestra_syntax.specs.Tree.{Instrument}
use Rattle.player_model.specs.PlayerState.{due_of, ends_by}
use Rattle.player_model.specs.Calls.{Entrance, unit, must_be_timed, has_time, reads, Call, submit, burst, cycle, Answer, one, numbered, keyboard, change, undo}
use Rattle.player_model.specs.History.{History}
use Rattle.player_model.proofs.Lists.{by-test}
use Rattle.score_bursts.specs.Bursts as bursts
use Rattle.score_bursts.specs.Bursts.{Burst, most_units}
use Rattle.score_bursts.proofs.Meaning as burst-kinds
use Rattle.score_bursts.proofs.Meaning.{every-burst, every-kind as every-kind-of-burst}
use Rattle.panel_claims.specs.Verdict.{Playable, too_late, most_lines, Fits, AllFit, Faulty, untimed, unplayable, late, full, Verdict, AtEntrance, AtCycle, over, bad_text, cut, not_carried, out_of_range, too_many_values, left_over, faulty, taken, other_length, over_before, finds_end, plays, AtKeyboard, most_messages, keys_over, keys_cut, keys_not_carried, keys_full, keys_taken, NotReached, set_over, area_length, used_fault, Stand, AtChange, change_not, new_fault, new_left_over, new_no_room, change_taken, AtUndo, undo_not, undo_nothing, undo_taken, with_lines, InTurn, none, next, burst_cut, burst_too_long, burst_no_room, burst_taken, once}
use Rattle.midi_messages.specs.Message.{none as no_status}
use Rattle.midi_messages.specs.Writing as midi
use Rattle.midi_messages.specs.Writing.{Parses}
use Rattle.midi_messages.proofs.Meaning.{every_call}
use Rattle.midi_messages.proofs.Faults.{Kind, is_whole, is_cut, is-not-carried, every-kind}
use Rattle.panel_claims.proofs.Fitting.{Judged, yes-so, no-so, event-judged}
use Rattle.panel_claims.proofs.Readings.{Readable, read_whole, read-cut, read-not-carried, read-out-of-range, read-too-many, read-left-over, read-bad-text, reads_so}

module _ {S : Type 0} (is : List Instrument) (h : History S) where
  -- one answer that a call has
  pub record Found (P : ℕ → ℕ → Type 0) : Type 0 where
    pub number : ℕ
    pub line : ℕ
    pub verdict : P number line

  module _ (d : Entrance) where
    data OneLine (n : ℕ) (l : Line) : Type 0 where
      fit : Fits is d h.reached n l → OneLine n l
      unfit : (number : ℕ) → Faulty is d h.reached n l number → OneLine n l

    one_line : (n : ℕ) (l : Line) → OneLine n l
    one_line n l =
        by-test (must_be_timed d && not (has_time l.when))
        (λ e. let x = both_true (must_be_timed d) (not (has_time l.when)) e in unfit 6 (untimed x.0 (not-true (has_time l.when) x.1)))
        (λ e. by-fields (λ m. not-false (has_time l.when) (cc)) (event-judged is l.count l.event))
      where
        by-fields : {b : Bool} → (must_be_timed d ≡ true → has_time l.when ≡ true) → Judged (Playable is l.count l.event) b → OneLine n l
        by-fields t (no-so u) = unfit 4 (unplayable t u)
        by-fields t (yes-so u) =
            by-test (too_late h.reached l.when) (λ w. unfit 7 (late t u w)) (λ w. by-test (ltb n most_lines)
            (λ q. fit (record { timed = t; playable = u; early = w; room = ltb-true n most_lines q })) (λ q. unfit 8 (full t u w (ltb-false n most_lines q))))

    data Parted (n : ℕ) (ls : List Line) : Type 0 where
      whole : AllFit is d h.reached n ls → Parted n ls
      broken : (before : List Line) (l : Line) (later : List Line) (number : ℕ) → ls ≡ before ++ (l ∷ later) → AllFit is d h.reached n before
          → Faulty is d h.reached (n + length before) l number → Parted n ls

    parted : (ls : List Line) (n : ℕ) → Parted n ls
    parted [] n = whole tt
    parted (l ∷ ls) n = go (one_line n l) (parted ls (suc n))
      where
        go : OneLine n l → Parted (suc n) ls → Parted n (l ∷ ls)
        go (unfit number f) r =
            let same : n + 0 ≡ n = omega arith in broken [] l ls number refl tt (rw same f)
        go (fit t) (whole u) = whole (t, u)
        go (fit t) (broken before x later number e u f) =
            let same : n + suc (length before) ≡ suc n + length before = omega arith in broken (l ∷ before) x later number (cc) (t, u) (rw same f)

    pub at-entrance : (handed : List ℕ) → Found (AtEntrance is h d handed)
    at-entrance handed =
        by-test h.holds.plays.ended (λ e. record { number = 9; line = 0; verdict = over e })
        (λ e. by-reading e (reads d handed).answer refl (reads_so d handed).readable)
      where
        by_lines : h.holds.plays.ended ≡ false → (reads d handed).answer ≡ answer.Taken → (ls : List Line) → (reads d handed).lines ≡ ls
            → Parted (length h.holds.waits) ls → Found (AtEntrance is h d handed)
        by_lines e q ls s (whole t) = record { number = 0; line = 0; verdict = taken ls (e, q, s) t }
        by_lines e q ls s (broken before l later number x t f) =
            record { number = number; line = length before; verdict = faulty before l later (e, q, s ∙ x) t f }

        by-reading : h.holds.plays.ended ≡ false → (a : kind.Answer) → (reads d handed).answer ≡ a → Readable a → Found (AtEntrance is h d handed)
        by-reading e _ q read_whole = by_lines e q (reads d handed).lines refl (parted (reads d handed).lines (length h.holds.waits))
        by-reading e _ q read-cut = record { number = 1; line = (reads d handed).line; verdict = cut e q }
        by-reading e _ q read-not-carried = record { number = 2; line = (reads d handed).line; verdict = not_carried e q }
        by-reading e _ q read-out-of-range = record { number = 3; line = (reads d handed).line; verdict = out_of_range e q }
        by-reading e _ q read-too-many = record { number = 5; line = (reads d handed).line; verdict = too_many_values e q }
        by-reading e _ q read-left-over = record { number = 11; line = 0; verdict = left_over e q }
        by-reading e _ q read-bad-text = record { number = 18; line = (reads d handed).line; verdict = bad_text e q }

  at-keyboard : (bytes : List ℕ) → Found (AtKeyboard is h bytes)
  at-keyboard bytes =
      by-test h.holds.plays.ended (λ e. record { number = 9; line = 0; verdict = keys_over e }) (λ e. by_call e (every_call bytes) (every-kind bytes))
    where
      by_call : h.holds.plays.ended ≡ false → {c : midi.Call} → Parses no_status bytes c → Kind c → Found (AtKeyboard is h bytes)
      by_call e s (is_whole ms) =
          let many = length h.holds.messages + length ms in
          by-test (leb many most_messages) (λ q. record { number = 0; line = 0; verdict = keys_taken ms e s (leb-true many most_messages q) })
          (λ q. record { number = 8; line = 0; verdict = keys_full ms e s (leb-false many most_messages q) })
      by_call e s is_cut = record { number = 1; line = 0; verdict = keys_cut e s }
      by_call e s is-not-carried = record { number = 2; line = 0; verdict = keys_not_carried e s }

  at-cycle : (block : List ℤ) → Found (AtCycle is h block)
  at-cycle block =
      by-test (numbered (cycle block))
      (λ w. by-test h.holds.plays.ended (λ e. record { number = 9; line = 0; verdict = over_before w e })
      (λ e. by-test (ends_by (due_of h.holds) h.holds.plays) (λ x. record { number = 9; line = 0; verdict = finds_end w e x })
      (λ x. record { number = 0; line = 0; verdict = plays w e x })))
      (λ w. record { number = 10; line = 0; verdict = other_length w })

-- a change and an undo
module _ {S : Type 0} (is : List Instrument) (h : History S) (area : List ℕ) where
  -- 9, 8 and the records in use, or what then is asked
  abbrev found-there : settings.Found
  found-there = records_in h.set.count area

  reached-so : {P : ℕ → ℕ → Type 0} → ((n : ℕ) → NotReached is h area n → P n 0) → (Stand is h area found-there.size → Found is h P) → Found is h P
  reached-so f g =
      by-test h.holds.plays.ended (λ e. record { number = 9; line = 0; verdict = f 9 (set_over e) })
      (λ e. by-test (eqb (length area) area_bytes)
      (λ q. let whole = eqb-true (length area) area_bytes q in by-test (is_taken found-there.answer)
      (λ t. g (record { goes_on = e; whole = whole; last = found-there.setting; valid = all-valid h.set.count area t }))
      (λ t. record { number = number_of found-there.answer; line = 0; verdict = f _ (used_fault e whole (first-fault h.set.count area t) t) }))
      (λ q. record { number = 8; line = 0; verdict = f 8 (area_length e (eqb-false (length area) area_bytes q)) }))

  at-change : (handed : List ℕ) → Found is h (AtChange is h area handed)
  at-change handed = reached-so (λ n v. change_not v) (λ s. by-test (is_taken (found_in handed).answer) (whole s) (λ t. faulty-record s t))
    where
      new : settings.Parses handed (found_in handed)
      new = every-record handed

      faulty-record : Stand is h area found-there.size → is_taken (found_in handed).answer ≡ false → Found is h (AtChange is h area handed)
      faulty-record s t =
          record { number = number_of (found_in handed).answer; line = 0; verdict = new_fault s (subst (settings.Parses handed) (content-refused new t) new) t }

      whole : Stand is h area found-there.size → is_taken (found_in handed).answer ≡ true → Found is h (AtChange is h area handed)
      whole s t =
          let fits = found-fits handed in
          let size = (found_in handed).size in
          let at = found-there.size in
          let valid-record = subst (settings.Parses handed) (fits.shape t) new in
          by-test (ltb size (length handed))
          (λ q. record { number = 11; line = 0; verdict = new_left_over s valid-record (ltb-true size (length handed) q) })
          (λ q. let e : size ≡ length handed = omega (arith, ltb-false size (length handed) q, fits.most t) in
          let exact = subst (λ (n : ℕ). settings.Parses handed (settings.found (found_in handed).setting n)) e valid-record in
          by-test (leb (at + length handed) area_bytes)
          (λ m. record { number = 0; line = 0; verdict = change_taken s exact (leb-true (at + length handed) area_bytes m) })
          (λ m. record { number = 8; line = 0; verdict = new_no_room s exact (leb-false (at + length handed) area_bytes m) }))

  at-undo : Found is h (AtUndo is h area)
  at-undo =
      reached-so (λ n v. undo_not v)
      (λ s. by-test (ltb h.set.count 2) (λ q. record { number = 21; line = 0; verdict = undo_nothing s (ltb-true h.set.count 2 q) })
      (λ q. record { number = 0; line = 0; verdict = undo_taken s (ltb-false h.set.count 2 q) }))

-- units in turn have answers
record Answers {S : Type 0} (is : List Instrument) (h : History S) (us : List (List ℕ)) : Type 0 where
  told : List Answer
  so : InTurn is h us told

in-turn : {S : Type 0} (is : List Instrument) (us : List (List ℕ)) (h : History S) → Answers is h us
in-turn is [] h = record { told = []; so = none }
in-turn is (u ∷ us) h =
    let x = at-entrance is h unit u in
    let y = in-turn is us (with_lines h (cond (eqb x.number 0) (reads unit u).lines [])) in
    record { told = record { number = x.number; line = x.line } ∷ y.told; so = next x.verdict y.so }

module _ {S : Type 0} (is : List Instrument) (h : History S) where
  pub record Decided (c : Call) : Type 0 where
    pub answers : List Answer
    pub verdict : Verdict is h c answers

  at-burst : (bytes area : List ℕ) → Decided (burst bytes area)
  at-burst bytes area = by_kind (every-burst bytes) (every-kind-of-burst bytes)
    where
      by_kind : {b : Burst} → bursts.Parses most_units bytes b → burst-kinds.Kind b → Decided (burst bytes area)
      by_kind s (burst-kinds.is-units us) =
          let y = in-turn is us h in
          by-test (leb (length us) (length area))
          (λ q. record { answers = one 0 0 ++ y.told; verdict = burst_taken us y.told s (leb-true (length us) (length area) q) y.so })
          (λ q. record { answers = one 8 0; verdict = burst_no_room us s (leb-false (length us) (length area) q) })
      by_kind s burst-kinds.is_cut = record { answers = one 1 0; verdict = burst_cut s }
      by_kind s burst-kinds.is-too-many = record { answers = one 5 0; verdict = burst_too_long s }

  pub decided : (c : Call) → Decided c
  decided (submit d handed) = let x = at-entrance is h d handed in record { answers = one x.number x.line; verdict = once x.verdict }
  decided (burst bytes area) = at-burst bytes area
  decided (keyboard bytes) = let x = at-keyboard is h bytes in record { answers = one x.number x.line; verdict = once x.verdict }
  decided (cycle block) = let x = at-cycle is h block in record { answers = one x.number x.line; verdict = once x.verdict }
  decided (change area handed) = let x = at-change is h area handed in record { answers = one x.number x.line; verdict = once x.verdict }
  decided (undo area) = let x = at-undo is h area in record { answers = one x.number x.line; verdict = once x.verdict }
