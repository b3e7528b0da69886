-- Each call has the verdict of its history, whose notes are those of the orchestra as it is written.
use mathlib.Core.Path.{◌≡◌, ◌∙◌, subst⁻¹}
use mathlib.Core.Bool.{◌||◌, cond}
use mathlib.Core.List.{List, [], ◌++◌}
use Prim.Native.Nat.{ℕ, ◌<◌, ◌≤◌}
use Rattle.settings_records.specs.Form.{ParsesRecords}
use Rattle.settings_records.specs.Form.{Found}
use Rattle.settings_records.specs.declared.InUse.{InUse}
use lib.IntN.{ℤ}
use lib.Dec.{eqb, ltb}
use Rattle.score_line.specs.declared.Line.{Line}
use Rattle.orchestra_syntax.specs.Tree.{Instrument}
use Rattle.player_model.specs.Cycle.{any_end, position_limit}
use Rattle.player_model.specs.PlayerState.{behind, due_at, due_of, ends_by}
use Rattle.player_model.specs.Calls.{Entrance, unit, reads, Call, submit, burst, keyboard, cycle, change, undo, Answer}
use Rattle.player_model.specs.History.{History}
use Rattle.panel_claims.specs.Verdict.{AtEntrance, over, bad_text, cut, not_carried, out_of_range, too_many_values, left_over, faulty, taken, AtKeyboard, keys_over, keys_cut, keys_not_carried, keys_full, keys_taken, AtCycle, other_length, over_before, finds_end, plays, NotReached, set_over, area_length, used_fault, Stand, AtChange, change_not, new_fault, new_left_over, new_no_room, change_taken, AtUndo, undo_not, undo_nothing, undo_taken, with_lines, InTurn, none, next, AtBurst, burst_cut, burst_too_long, burst_no_room, burst_taken, once, Verdict}
use Rattle.panel_claims.specs.Claims.{past, VerdictGiven, CallVerdict}
use Rattle.panel_claims.proofs.Past.{placed_past}
use Rattle.panel_claims.proofs.Answers.{verdict-by-place}
use Rattle.panel_claims.proofs.Decided.{decided}
use Rattle.panel_claims.proofs.Written.{written-past}

-- ---- verdicts: they ask nothing of a history that the notes' values change

module _ {S S' : Type 0} (is : List Instrument) where
  record Agree (h : History S) (g : History S') : Type 0 where
    ended : g.holds.plays.ended ≡ h.holds.plays.ended
    waits : g.holds.waits ≡ h.holds.waits
    messages : g.holds.messages ≡ h.holds.messages
    position : g.holds.plays.position ≡ h.holds.plays.position
    reached : g.reached ≡ h.reached
    set : g.set ≡ h.set

  module _ (h : History S) (g : History S') (a : Agree h g) where
    entrance-agrees : (d : Entrance) (handed : List ℕ) (n l : ℕ) → AtEntrance is h d handed n l → AtEntrance is g d handed n l
    entrance-agrees d handed n l (over e) = over (a.ended ∙ e)
    entrance-agrees d handed n l (bad_text e q) = bad_text (a.ended ∙ e) q
    entrance-agrees d handed n l (cut e q) = cut (a.ended ∙ e) q
    entrance-agrees d handed n l (not_carried e q) = not_carried (a.ended ∙ e) q
    entrance-agrees d handed n l (out_of_range e q) = out_of_range (a.ended ∙ e) q
    entrance-agrees d handed n l (too_many_values e q) = too_many_values (a.ended ∙ e) q
    entrance-agrees d handed n l (left_over e q) = left_over (a.ended ∙ e) q
    entrance-agrees d handed n l (faulty {number = m} before x later s t f) =
        faulty {number = m} before x later (a.ended ∙ s.0, s.1, s.2) (rw (a.reached, a.waits) t) (rw (a.reached, a.waits) f)
    entrance-agrees d handed n l (taken ls s t) = taken ls (a.ended ∙ s.0, s.1, s.2) (rw (a.reached, a.waits) t)

    keys-agree : (bytes : List ℕ) (n l : ℕ) → AtKeyboard is h bytes n l → AtKeyboard is g bytes n l
    keys-agree bytes n l (keys_over e) = keys_over (a.ended ∙ e)
    keys-agree bytes n l (keys_cut e s) = keys_cut (a.ended ∙ e) s
    keys-agree bytes n l (keys_not_carried e s) = keys_not_carried (a.ended ∙ e) s
    keys-agree bytes n l (keys_full ms e s r) = keys_full ms (a.ended ∙ e) s (rw a.messages r)
    keys-agree bytes n l (keys_taken ms e s r) = keys_taken ms (a.ended ∙ e) s (rw a.messages r)

    ends-agree : ends_by (due_of g.holds) g.holds.plays ≡ ends_by (due_of h.holds) h.holds.plays
    unfolding ends_by
    ends-agree = λ i. ltb position_limit (a.position i) || any_end (due_at (a.position i) (a.waits i))

    cycle-agrees : (block : List ℤ) (n l : ℕ) → AtCycle is h block n l → AtCycle is g block n l
    cycle-agrees block n l (other_length w) = other_length w
    cycle-agrees block n l (over_before w e) = over_before w (a.ended ∙ e)
    cycle-agrees block n l (finds_end w e x) = finds_end w (a.ended ∙ e) (ends-agree ∙ x)
    cycle-agrees block n l (plays w e x) = plays w (a.ended ∙ e) (ends-agree ∙ x)

    -- a change and an undo
    parses-agree : (area : List ℕ) {f : Found} → ParsesRecords h.set.count area f → ParsesRecords g.set.count area f
    parses-agree area {f} r = subst⁻¹ (λ (k : InUse). ParsesRecords k.count area f) a.set r

    stand-agrees : {area : List ℕ} {size : ℕ} → Stand is h area size → Stand is g area size
    stand-agrees {area} s = record { goes_on = a.ended ∙ s.goes_on; whole = s.whole; last = s.last; valid = parses-agree area s.valid }

    not_agrees : (area : List ℕ) (n : ℕ) → NotReached is h area n → NotReached is g area n
    not_agrees area _ (set_over e) = set_over (a.ended ∙ e)
    not_agrees area _ (area_length e l) = area_length (a.ended ∙ e) l
    not_agrees area _ (used_fault e l r t) = used_fault (a.ended ∙ e) l (parses-agree area r) t

    change-agrees : (area handed : List ℕ) (n l : ℕ) → AtChange is h area handed n l → AtChange is g area handed n l
    change-agrees area handed n _ (change_not v) = change_not (not_agrees area n v)
    change-agrees area handed _ _ (new_fault s x t) = new_fault (stand-agrees s) x t
    change-agrees area handed _ _ (new_left_over s x m) = new_left_over (stand-agrees s) x m
    change-agrees area handed _ _ (new_no_room s x m) = new_no_room (stand-agrees s) x m
    change-agrees area handed _ _ (change_taken s x m) = change_taken (stand-agrees s) x m

    undo-agrees : (area : List ℕ) (n l : ℕ) → AtUndo is h area n l → AtUndo is g area n l
    undo-agrees area n _ (undo_not v) = undo_not (not_agrees area n v)
    undo-agrees area _ _ (undo_nothing s m) = undo_nothing (stand-agrees s) (subst⁻¹ (λ (k : InUse). k.count < 2) a.set m)
    undo-agrees area _ _ (undo_taken s m) = undo_taken (stand-agrees s) (subst⁻¹ (λ (k : InUse). 2 ≤ k.count) a.set m)

  lines-agree : (h : History S) (g : History S') → Agree h g → (ls : List Line) → Agree (with_lines h ls) (with_lines g ls)
  unfolding behind
  lines-agree h g a ls =
      record { ended = a.ended; waits = λ i. a.waits i ++ ls; messages = a.messages; position = a.position; reached = a.reached; set = a.set }

  turn-agrees : (us : List (List ℕ)) (h : History S) (g : History S') → Agree h g → (given : List Answer) → InTurn is h us given → InTurn is g us given
  turn-agrees us h g a given none = none
  turn-agrees us h g a given (next {u = u} {us = vs} {number = n} {line = l} {given = later} x r) =
      let ls = cond (eqb n 0) (reads unit u).lines [] in
      next (entrance-agrees h g a unit u n l x) (turn-agrees vs (with_lines h ls) (with_lines g ls) (lines-agree h g a ls) later r)

  burst-agrees : (h : History S) (g : History S') → Agree h g → (bytes area : List ℕ) (told : List Answer) → AtBurst is h bytes area told → AtBurst is g bytes area told
  burst-agrees h g a bytes area told (burst_cut s) = burst_cut s
  burst-agrees h g a bytes area told (burst_too_long s) = burst_too_long s
  burst-agrees h g a bytes area told (burst_no_room us s r) = burst_no_room us s r
  burst-agrees h g a bytes area told (burst_taken us given s r x) = burst_taken us given s r (turn-agrees us h g a given x)

  verdict-agrees : (h : History S) (g : History S') → Agree h g → (c : Call) (told : List Answer) → Verdict is h c told → Verdict is g c told
  verdict-agrees h g a (submit d handed) told (once x) = once (entrance-agrees h g a d handed _ _ x)
  verdict-agrees h g a (burst bytes area) told x = burst-agrees h g a bytes area told x
  verdict-agrees h g a (keyboard bytes) told (once x) = once (keys-agree h g a bytes _ _ x)
  verdict-agrees h g a (cycle block) told (once x) = once (cycle-agrees h g a block _ _ x)
  verdict-agrees h g a (change area handed) told (once x) = once (change-agrees h g a area handed _ _ x)
  verdict-agrees h g a (undo area) told (once x) = once (undo-agrees h g a area _ _ x)

pub call-verdict : CallVerdict
unfolding CallVerdict
call-verdict u is g cs c =
    let w = written-past u is g cs in
    let a : Agree is (past u is cs) (placed_past u is cs) =
    record { ended = w.holds.ended; waits = w.holds.waits; messages = w.holds.messages; position = w.holds.position; reached = w.reached; set = w.set } in
    let exactly : VerdictGiven u is cs c = λ told x.
    verdict-by-place u is g cs c told (verdict-agrees is (past u is cs) (placed_past u is cs) a c told x) in
    let x = decided is (past u is cs) c in
    (record { answers = x.answers; told = exactly x.answers x.verdict; given = x.verdict }, exactly)
