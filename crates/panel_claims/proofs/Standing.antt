-- The settings are those of the last record taken and not undone.
use mathlib.Core.Path.{◌≡◌, refl, sym, ap, ◌∙◌, subst, subst⁻¹}
use mathlib.Core.Bool.{Bool, true, false, cond}
use mathlib.Core.List.{List, [], ◌∷◌}
use Prim.Native.Nat.{ℕ}
use Rattle.base_answer.specs.Numbers.{is_taken}
use Rattle.base_answer.specs.declared.Answer.TheVariants.{Ended}
use Rattle.orchestra_syntax.specs.Tree.{Instrument}
use Rattle.settings_records.specs.Changes as records
use Rattle.settings_records.specs.Claims.{Step, Store, answer_to, after_step, after_steps, taken_of, standing, AsStanding}
use Rattle.settings_records.specs.Claims as settings
use Rattle.settings_records.specs.declared.InUse.{InUse}
use Rattle.base_answer.specs.declared.Answered.{Answered}
use Rattle.settings_records.proofs.Stack.{last-standing}
use Rattle.player_model.specs.Calls.{Call, submit, burst, keyboard, cycle, change, undo, is_zero, Last, none, cycles_with, last_with, transition_of, trace_from, after_all}
use Rattle.player_model.proofs.Lists.{by-test, either_way, cond-true, cond-false}
use Rattle.panel.specs.Calls.{changed_in, area_in, undone_in, change_of, undo_of, submit_of, submitted_of, receive_of, play_keys_of, cycle_of}
use Rattle.panel.specs.declared.Panel.{Panel}
use Rattle.panel_claims.specs.Fresh.{Setup}
use Rattle.panel_claims.specs.Claims.{core_after, after_of, panel, Given, fresh, area_by}
use Rattle.panel_claims.specs.Standing.{LentThis, area_past, SameArea, with_step, steps_taken, LastStanding}
use Rattle.voices_compiled.specs.Voices.{VoiceState}
use Rattle.player_model.specs.History.{History}
use Rattle.player_start.specs.Starting.{area_started, starting_of, start_of}
use Rattle.code_loader.specs.Loading.{load_of}
use Rattle.code_loader_claims.proofs.Loaded.{loaded}
use Rattle.player_start.specs.declared.Start.{Start}
use Rattle.panel_claims.proofs.Chosen.{chosen-there}
use Rattle.panel_claims.proofs.Starts.{first_taken}
use Rattle.panel_claims.proofs.Past.{fresh-own, stands}

-- the settings in use, and the area
abbrev lent : InUse → List ℕ → Store
lent k area = record { settings = k; area = area }

-- a list of steps that goes as the calls do
record Goes (p q : Panel) (area : List ℕ) (taken : List Step) : Type 0 where
  steps : List Step
  keeps : q.core.settings ≡ (after_steps (lent p.core.settings area) steps).settings
  same : taken ≡ taken_of (lent p.core.settings area) steps

-- a call that is no step
unstepped : {p r q : Panel} {area : List ℕ} {taken : List Step} → r.core.settings ≡ p.core.settings → Goes r q area taken → Goes p q area taken
unstepped {p} {r} {q} {area} {taken} e g =
    record {
      steps = g.steps;
      keeps = g.keeps ∙ ap (λ (k : InUse). (after_steps (lent k area) g.steps).settings) e;
      same = g.same ∙ ap (λ (k : InUse). taken_of (lent k area) g.steps) e;
    }

-- one that is
stepped : {p r q : Panel} {area left : List ℕ} {taken later : List Step} (c : Step) → lent r.core.settings left ≡ after_step (lent p.core.settings area) c
    → taken ≡ cond (is_taken (answer_to (lent p.core.settings area) c)) (c ∷ later) later → Goes r q left later → Goes p q area taken
unfolding after_steps taken_of
stepped {p} {r} {q} {area} {left} {taken} {later} c e t g =
    record {
      steps = c ∷ g.steps;
      keeps = g.keeps ∙ ap (λ (l : Store). (after_steps l g.steps).settings) e;
      same =
          t ∙ ap (λ (x : List Step). cond (is_taken (answer_to (lent p.core.settings area) c)) (c ∷ x) x) (g.same ∙ ap (λ (l : Store). taken_of l g.steps) e);
    }

module _ (p : Panel) (area : List ℕ) where
  -- a change, by whether the panel has ended
  over-change : (handed : List ℕ) → p.core.state.playing.ended ≡ true → ((after_of p (change area handed)).player.core.settings ≡ p.core.settings) × ((after_of p (change area handed)).buffers.settings ≡ area)
      × (is_zero (after_of p (change area handed)).answers ≡ false)
  unfolding after_of core_after change_of changed_in area_in
  over-change handed e = (ap (λ (x : Answered InUse). x.left) (cond-true _ _ e), cond-true _ _ e, ap (λ (x : Answered InUse). is_taken x.answer) (cond-true _ _ e))

  open-change : (handed : List ℕ) → p.core.state.playing.ended ≡ false
      → (lent (after_of p (change area handed)).player.core.settings (after_of p (change area handed)).buffers.settings ≡ after_step (lent p.core.settings area) (settings.change handed))
      × (is_zero (after_of p (change area handed)).answers ≡ is_taken (answer_to (lent p.core.settings area) (settings.change handed)))
  unfolding after_of core_after change_of changed_in area_in
  open-change handed e = (
    (λ i. lent (cond-false (records.changed p.core.settings Ended) (records.change_of p.core.settings area handed) e i).left
        (cond-false area (records.area_changed p.core.settings.count area handed) e i)),
    ap (λ (x : Answered InUse). is_taken x.answer) (cond-false _ _ e),
  )

  over-undo : p.core.state.playing.ended ≡ true → ((after_of p (undo area)).player.core.settings ≡ p.core.settings) × (is_zero (after_of p (undo area)).answers ≡ false)
  unfolding after_of core_after undo_of undone_in
  over-undo e = (ap (λ (x : Answered InUse). x.left) (cond-true _ _ e), ap (λ (x : Answered InUse). is_taken x.answer) (cond-true _ _ e))

  open-undo : p.core.state.playing.ended ≡ false
      → (lent (after_of p (undo area)).player.core.settings area ≡ after_step (lent p.core.settings area) settings.undo)
      × (is_zero (after_of p (undo area)).answers ≡ is_taken (answer_to (lent p.core.settings area) settings.undo))
  unfolding after_of core_after undo_of undone_in
  open-undo e = (
    (λ i. lent (cond-false (records.changed p.core.settings Ended) (records.undo_of p.core.settings area) e i).left area),
    ap (λ (x : Answered InUse). is_taken x.answer) (cond-false _ _ e),
  )

-- a call that sets nothing
abbrev Plain : Call → Type 0
Plain (submit d handed) = Unit {0}
Plain (burst bytes area) = Unit {0}
Plain (keyboard bytes) = Unit {0}
Plain (cycle b) = Unit {0}
Plain (change area handed) = ⊥
Plain (undo area) = ⊥

plain-settings : (p : Panel) (c : Call) → Plain c → (after_of p c).player.core.settings ≡ p.core.settings
unfolding after_of core_after submit_of submitted_of receive_of play_keys_of cycle_of
plain-settings p (submit d handed) h = refl
plain-settings p (burst bytes area) h = refl
plain-settings p (keyboard bytes) h = refl
plain-settings p (cycle b) h = refl
plain-settings p (change area handed) h = absurd h
plain-settings p (undo area) h = absurd h

goes : (cs : List Call) (n : ℕ) (z : Last) (p : Panel) (area : List ℕ) → SameArea area (trace_from panel n z p cs)
    → Goes p (after_all panel p cs) area (steps_taken (trace_from panel n z p cs))
unfolding trace_from after_all steps_taken after_of core_after after_steps taken_of
goes [] n z p area s = record { steps = []; keeps = refl; same = refl }
goes (c ∷ cs) n z p area s =
    let m = transition_of panel n z p c in next c s.0 (goes cs (cycles_with m) (last_with m) (after_of p c).player (area_past area m c) s.1)
  where
    later : Call → List Step
    later c = steps_taken (trace_from panel (cycles_with (transition_of panel n z p c)) (last_with (transition_of panel n z p c)) (after_of p c).player cs)

    end : Call → Panel
    end c = after_all panel (after_of p c).player cs

    same-either : (b : Bool) (x : List Step) → cond b x x ≡ x
    same-either b x = either_way (λ (y : List Step). y ≡ x) b refl refl

    plain : {q : Panel} {x y : List Step} → x ≡ y → Goes p q area y → Goes p q area x
    plain {q} e g = subst⁻¹ (Goes p q area) e g

    next : (c : Call) → LentThis area c → Goes (after_of p c).player (end c) (area_past area (transition_of panel n z p c) c) (later c)
        → Goes p (end c) area (cond (is_zero (after_of p c).answers) (with_step c (later c)) (later c))
    next (submit d handed) l g = plain (same-either (is_zero (after_of p (submit d handed)).answers) (later (submit d handed))) (unstepped (plain-settings p (submit d handed) tt) g)
    next (burst bytes answers) l g = plain (same-either (is_zero (after_of p (burst bytes answers)).answers) (later (burst bytes answers))) (unstepped (plain-settings p (burst bytes answers) tt) g)
    next (keyboard bytes) l g = plain (same-either (is_zero (after_of p (keyboard bytes)).answers) (later (keyboard bytes))) (unstepped (plain-settings p (keyboard bytes) tt) g)
    next (cycle b) l g = plain (same-either (is_zero (after_of p (cycle b)).answers) (later (cycle b))) (unstepped (plain-settings p (cycle b) tt) g)
    next (change a handed) l g =
        let g' = subst (λ (x : List ℕ). Goes (after_of p (change x handed)).player (end (change x handed)) (after_of p (change x handed)).buffers.settings (later (change x handed))) l g in
        subst⁻¹ (λ (x : List ℕ). Goes p (end (change x handed)) area
        (cond (is_zero (after_of p (change x handed)).answers) (settings.change handed ∷ later (change x handed)) (later (change x handed)))) l
        (by-test p.core.state.playing.ended
        (λ e. let o = over-change p area handed e in
        plain (cond-false _ _ o.2) (unstepped o.0 (subst (λ (y : List ℕ). Goes (after_of p (change area handed)).player (end (change area handed)) y (later (change area handed))) o.1 g')))
        (λ e. let o = open-change p area handed e in
        stepped (settings.change handed) o.0 (ap (λ (b : Bool). cond b (settings.change handed ∷ later (change area handed)) (later (change area handed))) o.1) g'))
    next (undo a) l g =
        let g' = subst (λ (x : List ℕ). Goes (after_of p (undo x)).player (end (undo x)) (after_of p (undo x)).buffers.settings (later (undo x))) l g in
        subst⁻¹ (λ (x : List ℕ). Goes p (end (undo x)) area (cond (is_zero (after_of p (undo x)).answers) (settings.undo ∷ later (undo x)) (later (undo x)))) l
        (by-test p.core.state.playing.ended
        (λ e. let o = over-undo p area e in
        plain (cond-false _ _ o.1) (unstepped o.0 g'))
        (λ e. let o = open-undo p area e in
        stepped (settings.undo) o.0 (ap (λ (b : Bool). cond b (settings.undo ∷ later (undo area)) (later (undo area))) o.1) g'))

-- a fresh panel keeps what the first change leaves
fresh_keeps : (u : Setup) (is : List Instrument) → Given u is → (fresh u).core.settings ≡ (records.change_of records.none_in_use u.area u.first).left
fresh_keeps u is g = ap (λ (h : History VoiceState). h.set) (fresh-own u is g) ∙ sym (first_taken u is g).keeps

fresh-answers : (u : Setup) (is : List Instrument) → Given u is → is_taken (starting_of u.orchestra u.area u.first u.chosen).answer ≡ true
unfolding starting_of start_of
fresh-answers u is g =
    ap (λ (s : Start). is_taken s.answer)
    (cond-true _ _ (first_taken u is g).taken
    ∙ cond-true _ _ (ap is_taken (loaded u.orchestra is g.accepted).taken)
    ∙ cond-true _ _ (chosen-there is (load_of u.orchestra).left (stands u is g) u.chosen g.there))
    ∙ ap is_taken (loaded u.orchestra is g.accepted).taken

area-is : (u : Setup) (is : List Instrument) → Given u is → area_by u ≡ records.area_changed 0 u.area u.first
unfolding area_started
area-is u is g = cond-true _ _ (fresh-answers u is g)

pub last-standing-panel : LastStanding
unfolding LastStanding settings.LastStanding
last-standing-panel u is g cs s =
    let f = first_taken u is g in
    let start = after_step (lent records.none_in_use u.area) (settings.change u.first) in
    let x = goes cs 0 none (fresh u) (area_by u) s in
    let same_start : lent (fresh u).core.settings (area_by u) ≡ start = λ i. lent (fresh_keeps u is g i) (area-is u is g i) in
    let steps = x.steps in
    let k : (after_all panel (fresh u) cs).core.settings ≡ (after_steps start steps).settings = x.keeps ∙ ap (λ (l : Store). (after_steps l steps).settings) same_start in
    let t : steps_taken (trace_from panel 0 none (fresh u) cs) ≡ taken_of start steps = x.same ∙ ap (λ (l : Store). taken_of l steps) same_start in
    let y = last-standing u.area u.first steps f.taken in
    subst⁻¹ (λ (z : List Step). AsStanding (standing (u.first ∷ []) z) (after_all panel (fresh u) cs).core.settings) t
    (subst⁻¹ (AsStanding (standing (u.first ∷ []) (taken_of start steps))) k y)
