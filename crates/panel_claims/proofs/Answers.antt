-- Each verdict is given: what a call answers, by its history.
use mathlib.Core.Path.{◌≡◌, refl, sym, ap, ◌∙◌, subst⁻¹}
use mathlib.Core.Bool.{true, false, not, cond}
use mathlib.Core.List.{List, [], ◌∷◌, ◌++◌, append-nil}
use Prim.Native.Nat.{ℕ, ◌+◌, ◌≤◌}
use native.Mathlib.Omega.{arith}
use lib.IntN.{ℤ}
use lib.ListN.{length}
use lib.Dec.{eqb}
use borrow.Author.Tests.{le-leb, lt-leb, eqb-true}
use Rattle.settings_records.specs.Changes as records
use Rattle.settings_records.specs.Changes.{changing}
use Rattle.settings_records.specs.declared.InUse.{InUse}
use Rattle.settings_records.specs.Form.{Found}
use Rattle.base_answer.specs.declared.Answered.{Answered}
use Rattle.settings_records.proofs.Changing.{other-length, used-fault, new-fault, left-over, no-room, goes_in, undo-length, undo-fault, undo-nothing, undo-taken}
use Rattle.settings_records.specs.Form.{ParsesRecords}
use Rattle.settings_records.specs.inside.Reading.{records_in}
use Rattle.settings_records.proofs.Meaning.{one-meaning as read-meaning}
use Rattle.settings_records.proofs.Walk.{records-end}
use Rattle.settings_records.proofs.Areas.{one-meaning-records}
use Rattle.player_model.proofs.Lists.{by-test, cond-true, cond-false}
use Rattle.panel_claims.specs.Fresh.{Setup}
use Rattle.midi_queue.specs.Keyboard.{most_messages, enqueued_in}
use Rattle.player_cycle.specs.CycleCall.{cycled_of}
use Rattle.player_calls.specs.OnState.{keyboard_call_of}
use Rattle.base_answer.specs.Numbers.{number_of, is_taken}
use Rattle.base_answer.specs.declared.Answer as kind
use Rattle.base_answer.specs.declared.Answer.TheVariants as answer
use Rattle.score_line.specs.declared.Line.{Line}
use Rattle.text_format.specs.inside.Reading.{lines}
use Rattle.orchestra_syntax.specs.Tree.{Instrument}
use Rattle.orchestra_syntax.specs.Names.{has}
use Rattle.voices_compiled.specs.Voices.{VoiceState}
use Rattle.player_model.specs.Lists.{each}
use Rattle.player_model.specs.PlayerState.{behind}
use Rattle.player_model.specs.Calls.{Entrance, unit, must_be_timed, reads, Call, submit, burst, cycle, Answer, one, After, keyboard, change, undo}
use Rattle.player_model.specs.History.{History}
use Rattle.entrance_admission.specs.Submission.{admitted_all, submitted_in}
use Rattle.player_calls.specs.OnState as on_state
use Rattle.panel.specs.State.{program_of, table_of, with_queue}
use Rattle.panel.specs.Calls.{submitted_of, submit_of, play_keys_of, changed_in, undone_in, change_of, undo_of, cycle_of}
use Rattle.panel.specs.declared.Panel.{Panel}
use Rattle.code_loader_claims.specs.Claims.{StandsFor}
use Rattle.panel_claims.specs.Verdict.{Verdict, AtEntrance, AtCycle, over, bad_text, cut, not_carried, out_of_range, too_many_values, left_over, faulty, taken, other_length, over_before, finds_end, plays, AtKeyboard, keys_over, keys_cut, keys_not_carried, keys_full, keys_taken, NotReached, set_over, area_length, used_fault, Stand, AtChange, change_not, new_fault, new_left_over, new_no_room, change_taken, AtUndo, undo_not, undo_nothing, undo_taken, with_lines, InTurn, none, next, AtBurst, burst_cut, burst_too_long, burst_no_room, burst_taken, once}
use Rattle.panel_claims.specs.Claims.{unit_answer, core_after, after_of, BurstAsUnits, panel_after, Given}
use Rattle.panel_claims.proofs.Entrances.{Brings, takes, refuses, brings}
use Rattle.panel_claims.proofs.Bursts.{at_unit, first-number, unit-line, singly, singly-answers, burst-as-units}
use Rattle.midi_messages.proofs.Meaning.{one-parse}
use Rattle.panel_claims.proofs.Past.{own, stands, invariant-after, past_is, placed_past}
use Rattle.panel_claims.proofs.Pushing.{told, Has, all_fit, first-faulty}
use Rattle.panel_claims.proofs.Readings.{reads_so}

-- ---- each verdict is given

module _ (is : List Instrument) (p : Panel) (r : StandsFor is (program_of p)) (long : length p.core.state.queue.lines ≡ 64) where
  has-own : (d : Entrance) → Has is (program_of p) r d (own p).reached p.core.state.queue (length (own p).holds.waits)
  has-own d = record { long = long; many = refl; is-reached = refl }

  when-over : (d : Entrance) (b : List ℕ) → (own p).holds.plays.ended ≡ true → (after_of p (submit d b)).answers ≡ one 9 0
  unfolding after_of core_after submit_of submitted_of on_state.submitted_of submitted_in
  when-over d b e = rw e

  when-unread : (d : Entrance) (b : List ℕ) (a : kind.Answer) → (own p).holds.plays.ended ≡ false → (reads d b).answer ≡ a → is_taken a ≡ false
      → (after_of p (submit d b)).answers ≡ one (number_of a) (reads d b).line
  unfolding after_of core_after submit_of submitted_of on_state.submitted_of submitted_in
  when-unread d b a e q t = rw (e, q, t)

  when-read : (d : Entrance) (b : List ℕ) (ls : List Line) → (own p).holds.plays.ended ≡ false → (reads d b).answer ≡ answer.Taken → (reads d b).lines ≡ ls
      → (after_of p (submit d b)).answers ≡ told (admitted_all (must_be_timed d) (table_of (program_of p)) p.core.state.queue p.core.state.queue 0 ls)
  unfolding after_of core_after submit_of submitted_of on_state.submitted_of submitted_in
  when-read d b ls e q s = rw (e, q, s)

  at-cycle-given : (b : List ℤ) (n l : ℕ) → AtCycle is (own p) b n l → (after_of p (cycle b)).answers ≡ one n l
  unfolding after_of core_after cycle_of cycled_of
  at-cycle-given b n l (other_length w) = rw w
  at-cycle-given b n l (over_before w e) = rw (w, e)
  at-cycle-given b n l (finds_end w e y) = rw (w, y, e)
  at-cycle-given b n l (plays w e y) = rw (w, y, e)

  pub at-entrance-given : (d : Entrance) (b : List ℕ) (n l : ℕ) → AtEntrance is (own p) d b n l → (after_of p (submit d b)).answers ≡ one n l
  at-entrance-given d b n l (over e) = when-over d b e
  at-entrance-given d b n l (bad_text e q) = when-unread d b answer.BadText e q refl
  at-entrance-given d b n l (cut e q) = when-unread d b answer.CutShort e q refl
  at-entrance-given d b n l (not_carried e q) = when-unread d b answer.NotCarried e q refl
  at-entrance-given d b n l (out_of_range e q) = when-unread d b answer.OutOfRange e q refl
  at-entrance-given d b n l (too_many_values e q) = when-unread d b answer.TooManyValues e q refl
  at-entrance-given d b n l (left_over e q) = when-unread d b answer.LeftOver e q refl ∙ ap (one 11) ((reads_so d b).from-0 q)
  at-entrance-given d b n l (faulty {number = m} before x later s t f) =
      let i-same : 0 + length before ≡ length before = omega arith in
      when-read d b (before ++ (x ∷ later)) s.0 s.1 s.2
      ∙ first-faulty is (program_of p) r d (own p).reached p.core.state.queue before x later m p.core.state.queue _ 0 (has-own d) t f ∙ ap (one m) i-same
  at-entrance-given d b n l (taken ls s t) =
      when-read d b ls s.0 s.1 s.2 ∙ all_fit is (program_of p) r d (own p).reached p.core.state.queue ls p.core.state.queue _ 0 (has-own d) t

  at-keyboard-given : (bytes : List ℕ) (n l : ℕ) → AtKeyboard is (own p) bytes n l → (after_of p (keyboard bytes)).answers ≡ one n l
  unfolding after_of core_after play_keys_of keyboard_call_of enqueued_in
  at-keyboard-given bytes n l (keys_over e) = rw e
  at-keyboard-given bytes n l (keys_cut e s) = rw (e, one-parse bytes _ s)
  at-keyboard-given bytes n l (keys_not_carried e s) = rw (e, one-parse bytes _ s)
  at-keyboard-given bytes n l (keys_full ms e s g) = rw (e, one-parse bytes _ s, lt-leb _ most_messages g)
  at-keyboard-given bytes n l (keys_taken ms e s g) = rw (e, one-parse bytes _ s, le-leb _ most_messages g)

-- ---- the units of a burst, in turn

-- the panel past a unit: its history has the unit's line where it was taken, and it keeps its program and its 64 places
pub record Past (p : Panel) (u : List ℕ) (number : ℕ) (q : Panel) : Type 0 where
  pub is-own : own q ≡ with_lines (own p) (cond (eqb number 0) (reads unit u).lines [])
  pub has : program_of q ≡ program_of p
  pub long : length q.core.state.queue.lines ≡ 64

pub past-unit : (p : Panel) → length p.core.state.queue.lines ≡ 64 → (u : List ℕ) → Past p u (number_of (at_unit p u).answer) (at_unit p u).left
unfolding after_of core_after first-number behind with_queue
past-unit p long u = go (brings p unit u)
  where
    AsTold : After Panel → Type 0
    AsTold a = Past p u (first-number a.answers) a.player

    go : Brings p (reads unit u).lines (after_of p (submit unit u)) → AsTold (after_of p (submit unit u))
    go (takes l q e f x) =
        let b = f long in
        subst⁻¹ AsTold x
        (record { is-own = rw (b.waits, b.ran, b.last); has = refl; long = b.long })
    go (refuses n l z x) =
        subst⁻¹ AsTold x
        (record { is-own = rw (z, append-nil); has = refl; long = long })

in-turn-given : (is : List Instrument) (us : List (List ℕ)) (p : Panel) → StandsFor is (program_of p) → length p.core.state.queue.lines ≡ 64
    → (given : List Answer) → InTurn is (own p) us given → each unit_answer (singly p us).numbers ≡ given
unfolding singly each after_of core_after
in-turn-given is [] p r long given none = refl
in-turn-given is (u ∷ us) p r long _ (next {number = number} {line = line} {given = given} v rest) =
    let told-so : one (number_of (at_unit p u).answer) (at_unit p u).line ≡ one number line = at-entrance-given is p r long unit u number line v in
    let y = past-unit p long u in
    let a : unit_answer (number_of (at_unit p u).answer) ≡ record { number = number; line = line } = cc (unit-line p u) in
    let own_is = y.is-own ∙ ap (λ (x : Answer). with_lines (own p) (cond (eqb x.number 0) (reads unit u).lines [])) a in
    let others = in-turn-given is us (at_unit p u).left (rw y.has r) y.long given (subst⁻¹ (λ (h : History VoiceState). InTurn is h us given) own_is rest) in
    λ i. a i ∷ others i

at-burst-given : (is : List Instrument) (p : Panel) → StandsFor is (program_of p) → length p.core.state.queue.lines ≡ 64
    → (bytes area : List ℕ) (given : List Answer) → AtBurst is (own p) bytes area given → (after_of p (burst bytes area)).answers ≡ given
unfolding BurstAsUnits
at-burst-given is p r long bytes area _ (burst_cut s) = cc ((burst-as-units p bytes area).cut s)
at-burst-given is p r long bytes area _ (burst_too_long s) = cc ((burst-as-units p bytes area).too_long s)
at-burst-given is p r long bytes area _ (burst_no_room us s h) = cc ((burst-as-units p bytes area).no_room us s h)
at-burst-given is p r long bytes area _ (burst_taken us given s h t) =
    cc ((burst-as-units p bytes area).taken us s h, singly-answers us p, in-turn-given is us p r long given t)

-- ---- a change and an undo

-- a change's number is that of its judgement
pub change-number : (k : InUse) (area handed : List ℕ) {f : Found} → f ≡ changing k.count area handed → number_of (records.change_of k area handed).answer ≡ number_of f.answer
unfolding records.change_of
change-number k area handed {f} e =
    by-test (is_taken (changing k.count area handed).answer)
    (λ t. ap (λ (x : Answered InUse). number_of x.answer) (cond-true _ _ t) ∙ sym (ap (λ (x : Found). number_of x.answer) e ∙ eqb-true (number_of (changing k.count area handed).answer) 0 t))
    (λ t. ap (λ (x : Answered InUse). number_of x.answer) (cond-false _ _ t) ∙ sym (ap (λ (x : Found). number_of x.answer) e))

module _ (is : List Instrument) (p : Panel) (area : List ℕ) where
  abbrev k : InUse
  k = p.core.settings

  in_use : {f : Found} → ParsesRecords k.count area f → f ≡ records_in k.count area
  in_use r = sym (one-meaning-records k.count area _ r)

  ends : {size : ℕ} → Stand is (own p) area size → size ≤ 4096
  ends s =
      omega (
        arith,
        s.whole,
        ap (λ (f : Found). f.size) (in_use s.valid),
        (records-end k.count area (ap (λ (f : Found). is_taken f.answer) (sym (in_use s.valid)))).most,
      )

  open-change : (handed : List ℕ) {f : Found} → p.core.state.playing.ended ≡ false → f ≡ changing k.count area handed → (after_of p (change area handed)).answers ≡ one (number_of f.answer) 0
  unfolding after_of core_after change_of changed_in
  open-change handed e q = ap (λ (x : Answered InUse). one (number_of x.answer) 0) (cond-false _ _ e) ∙ ap (λ (n : ℕ). one n 0) (change-number k area handed q)

  over-change : (handed : List ℕ) → p.core.state.playing.ended ≡ true → (after_of p (change area handed)).answers ≡ one 9 0
  unfolding after_of core_after change_of changed_in
  over-change handed e = ap (λ (x : Answered InUse). one (number_of x.answer) 0) (cond-true _ _ e)

  not-change : (handed : List ℕ) (n : ℕ) → NotReached is (own p) area n → (after_of p (change area handed)).answers ≡ one n 0
  not-change handed _ (set_over e) = over-change handed e
  not-change handed _ (area_length e h) = open-change handed e (other-length k.count area handed h refl)
  not-change handed _ (used_fault {a} e h r t) = open-change handed e (used-fault k.count area handed h (in_use r) refl (ap not t) refl)

  at-change-given : (handed : List ℕ) (n l : ℕ) → AtChange is (own p) area handed n l → (after_of p (change area handed)).answers ≡ one n l
  at-change-given handed n _ (change_not v) = not-change handed n v
  at-change-given handed _ _ (new_fault {a} s x t) =
      open-change handed s.goes_on (new-fault k.count area handed s.whole (in_use s.valid) refl refl (sym (read-meaning handed _ x)) refl (ap not t) refl)
  at-change-given handed _ _ (new_left_over s x m) =
      open-change handed s.goes_on (left-over k.count area handed s.whole (in_use s.valid) refl refl (sym (read-meaning handed _ x)) refl refl m refl)
  at-change-given handed _ _ (new_no_room s x m) =
      open-change handed s.goes_on
      (no-room k.count area handed s.whole (in_use s.valid) refl refl (sym (read-meaning handed _ x)) refl refl (omega arith) (omega (arith, m, ends s)) refl)
  at-change-given handed _ _ (change_taken s x m) =
      open-change handed s.goes_on
      (goes_in k.count area handed s.whole (in_use s.valid) refl refl (sym (read-meaning handed _ x)) refl refl (omega arith) (omega (arith, m)))

  open-undo : {c : Answered InUse} → p.core.state.playing.ended ≡ false → c ≡ records.undo_of k area → (after_of p (undo area)).answers ≡ one (number_of c.answer) 0
  unfolding after_of core_after undo_of undone_in
  open-undo e q = ap (λ (x : Answered InUse). one (number_of x.answer) 0) (cond-false _ _ e ∙ sym q)

  over-undo : p.core.state.playing.ended ≡ true → (after_of p (undo area)).answers ≡ one 9 0
  unfolding after_of core_after undo_of undone_in
  over-undo e = ap (λ (x : Answered InUse). one (number_of x.answer) 0) (cond-true _ _ e)

  not-undo : (n : ℕ) → NotReached is (own p) area n → (after_of p (undo area)).answers ≡ one n 0
  not-undo _ (set_over e) = over-undo e
  not-undo _ (area_length e h) = open-undo e (undo-length k area h)
  not-undo _ (used_fault e h r t) = open-undo e (undo-fault k area h (in_use r) refl (ap not t))

  at-undo-given : (n l : ℕ) → AtUndo is (own p) area n l → (after_of p (undo area)).answers ≡ one n l
  at-undo-given n _ (undo_not v) = not-undo n v
  at-undo-given _ _ (undo_nothing s m) = open-undo s.goes_on (undo-nothing k area s.whole (in_use s.valid) refl refl m)
  at-undo-given _ _ (undo_taken s m) = open-undo s.goes_on (undo-taken k area s.whole (in_use s.valid) refl refl m refl)

module _ (is : List Instrument) (p : Panel) (r : StandsFor is (program_of p)) (long : length p.core.state.queue.lines ≡ 64) where
  given : (c : Call) (told : List Answer) → Verdict is (own p) c told → (after_of p c).answers ≡ told
  given (submit d b) _ (once v) = at-entrance-given is p r long d b _ _ v
  given (burst bytes area) told v = at-burst-given is p r long bytes area told v
  given (keyboard bytes) _ (once v) = at-keyboard-given is p r long bytes _ _ v
  given (cycle b) _ (once v) = at-cycle-given is p r long b _ _ v
  given (change area handed) _ (once v) = at-change-given is p area handed _ _ v
  given (undo area) _ (once v) = at-undo-given is p area _ _ v

-- ---- the verdict by place, as it is given

pub verdict-by-place : (u : Setup) (is : List Instrument) → Given u is → (cs : List Call) (c : Call) (told : List Answer)
    → Verdict is (placed_past u is cs) c told → (after_of (panel_after u is cs) c).answers ≡ told
verdict-by-place u is g cs c told x =
    let p = panel_after u is cs in
    let k = invariant-after u is g cs in
    given is p (subst⁻¹ (StandsFor is) k.has (stands u is g)) k.long c told
    (subst⁻¹ (λ (h : History VoiceState). Verdict is h c told) (past_is u is g cs) x)
