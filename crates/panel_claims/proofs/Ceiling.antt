-- The ceiling binds, on a panel and on a core whatever it is lent; and a core that is lent its panel's own code goes as the panel does.
use mathlib.Core.Path.{◌≡◌, refl, sym, ap, ◌∙◌, subst, subst⁻¹}
use mathlib.Core.Bool.{Bool, true, false, cond, true≢false, false≢true}
use mathlib.Core.List.{List, [], ◌∷◌}
use Prim.Native.Nat.{ℕ}
use lib.IntN.{ℤ}
use Rattle.settings_records.specs.Form.{Valid}
use Rattle.settings_records.specs.declared.InUse.{InUse}
use Rattle.voices_compiled.specs.Voices.{VoiceState}
use Rattle.player_model.specs.History.{History}
use Rattle.player_model.specs.Set.{set_by}
use Rattle.player_model.proofs.Lists.{either_way, cond-false, all_map}
use Rattle.score_bursts.specs.Bursts.{Burst, units, fault}
use Rattle.score_bursts.specs.inside.Reading.{burst_of}
use Rattle.player_start.specs.Starting.{starting_of}
use Rattle.player_model.specs.Condition3.{WithinCeiling}
use lib.Ieee.{Float}
use lib.ListN.{length}
use lib.Dec.{eqb, leb}
use Rattle.base_float32.specs.Limit.{Within}
use Rattle.player_model.specs.Lists.{All, each}
use Rattle.player_model.specs.PlayerState.{Settings, due_of}
use Rattle.player_model.specs.Calls.{Call, submit, burst, keyboard, cycle, change, undo, numbered, After, is_zero, Last, none, Transition, cycles_with, last_with, transition_of, trace_from, after_all}
use Rattle.player_model.proofs.Ceiling.{block_within, Counted, AllBound, bound-within}
use Rattle.panel.specs.Display.{display_of}
use Rattle.panel.specs.State.{program_of, voices_of, player_state_of, settings_in, panel_of}
use Rattle.panel.specs.Calls.{fresh_of, submitted_of, submit_of, receive_of, play_keys_of, cycle_of}
use Rattle.panel.specs.declared.Panel.{Panel}
use Rattle.panel.specs.declared.Core.{Core}
use Rattle.panel_claims.specs.Claims.{core_after, after_of, panel, first_in_use, fresh, settings, ended_burst, ended_after, AsEnded, CycleByTree, CeilingBinds}
use Rattle.panel_claims.specs.Core.{core, LentCall, lent_from, SetInRange, CoreCeilingBinds, CoreStaysEnded, transition_on_core, lent_own, GoesAsPanel, CoreAsPanel, CoreTold}
use Rattle.panel_claims.proofs.Cycles.{Cycles, off, over-before, ends, plays, cycles}
use Rattle.panel_claims.proofs.Settings.{Sets, set-taken, set-refused, changes, undoes}
use Rattle.panel_claims.proofs.Past.{fresh-invariant, fresh-own}
use Rattle.panel_claims.proofs.Written.{cycle-by-tree}
use Rattle.panel_claims.proofs.Ended.{core-stays-ended}
use Rattle.panel_claims.proofs.Fresh.{Kind, no_start, starts, start-kind}

-- ---- the ceiling

-- a call that answers 0 leaves no block, or a cycle's, within the ceiling that is set
module _ (p : Panel) (l : Valid p.core.settings.last) where
  sound-within : (b : List ℤ) → is_zero (after_of p (cycle b)).answers ≡ true → All (Within p.core.settings.last.ceiling) (after_of p (cycle b)).buffers.block
  sound-within b t = go (cycles p b)
    where
      not-zero : {a : After Panel} → after_of p (cycle b) ≡ a → is_zero a.answers ≡ true
      not-zero x = ap (λ (a : After Panel). is_zero a.answers) (sym x) ∙ t

      go : Cycles p b (after_of p (cycle b)) → All (Within p.core.settings.last.ceiling) (after_of p (cycle b)).buffers.block
      go (off w x) = absurd (false≢true (not-zero x))
      go (over-before w e x) = absurd (false≢true (not-zero x))
      go (ends w e d x) = absurd (false≢true (not-zero x))
      go (plays w e d x) =
          subst⁻¹ (λ (a : After Panel). All (Within p.core.settings.last.ceiling) a.buffers.block) x
          (block_within (voices_of (program_of p)) (settings_in p.core) l.ceiling.0 l.ceiling.1 (due_of (player_state_of p)) (player_state_of p).plays)

  -- a call that is no cycle of the list leaves none
  no-sound : (c : Call) → numbered c ≡ false → is_zero (after_of p c).answers ≡ true → (after_of p c).buffers.block ≡ []
  unfolding after_of core_after
  no-sound (submit d handed) w t = refl
  no-sound (burst bytes area) w t = refl
  no-sound (keyboard bytes) w t = refl
  no-sound (change area handed) w t = refl
  no-sound (undo area) w t = refl
  no-sound (cycle b) w t = go (cycles p b)
    where
      go : Cycles p b (after_of p (cycle b)) → (after_of p (cycle b)).buffers.block ≡ []
      go (off v x) = absurd (false≢true (ap (λ (a : After Panel). is_zero a.answers) (sym x) ∙ t))
      go (over-before v e x) = absurd (true≢false (sym v ∙ w))
      go (ends v e d x) = absurd (true≢false (sym v ∙ w))
      go (plays v e d x) = absurd (true≢false (sym v ∙ w))

  heard : (c : Call) → numbered c ≡ true → is_zero (after_of p c).answers ≡ true → All (Within p.core.settings.last.ceiling) (after_of p c).buffers.block
  heard (submit d handed) w t = absurd (false≢true w)
  heard (burst bytes area) w t = absurd (false≢true w)
  heard (keyboard bytes) w t = absurd (false≢true w)
  heard (change area handed) w t = absurd (false≢true w)
  heard (undo area) w t = absurd (false≢true w)
  heard (cycle b) w t = sound-within b t

  -- what is set afterwards, and that it is valid
  same_set : (b : Bool) → cond b p.core.settings p.core.settings ≡ p.core.settings
  same_set b = either_way (λ (x : InUse). x ≡ p.core.settings) b refl refl

  abbrev set_after : Call → InUse
  set_after c = cond (numbered c) p.core.settings (cond (is_zero (after_of p c).answers) (set_by p.core.settings c) p.core.settings)

  by-sets : (c : Call) {left : List ℕ} → numbered c ≡ false → Sets p c left (after_of p c) → ((after_of p c).player.core.settings ≡ set_after c) × Valid (after_of p c).player.core.settings.last
  by-sets c w (set-taken e n x) = (
    ap (λ (a : After Panel). a.player.core.settings) x
        ∙ sym (cond-false _ _ w ∙ ap (λ (a : After Panel). cond (is_zero a.answers) (set_by p.core.settings c) p.core.settings) x),
    subst⁻¹ (λ (a : After Panel). Valid a.player.core.settings.last) x n,
  )
  by-sets c w (set-refused n z x) = (
    ap (λ (a : After Panel). a.player.core.settings) x
        ∙ sym (cond-false _ _ w ∙ ap (λ (a : After Panel). cond (is_zero a.answers) (set_by p.core.settings c) p.core.settings) x ∙ cond-false _ _ z),
    subst⁻¹ (λ (a : After Panel). Valid a.player.core.settings.last) x l,
  )

  set_so : (c : Call) → ((after_of p c).player.core.settings ≡ set_after c) × Valid (after_of p c).player.core.settings.last
  unfolding after_of core_after submit_of submitted_of receive_of play_keys_of cycle_of
  set_so (submit d handed) = (sym (same_set (is_zero (after_of p (submit d handed)).answers)), l)
  set_so (burst bytes area) = (sym (same_set (is_zero (after_of p (burst bytes area)).answers)), l)
  set_so (keyboard bytes) = (sym (same_set (is_zero (after_of p (keyboard bytes)).answers)), l)
  set_so (cycle b) =
      (sym (ap (λ (x : InUse). cond (numbered (cycle b)) p.core.settings x) (same_set (is_zero (after_of p (cycle b)).answers)) ∙ same_set (numbered (cycle b))), l)
  set_so (change area handed) = by-sets (change area handed) refl (changes p area handed)
  set_so (undo area) = by-sets (undo area) refl (undoes p area)

counted : (cs : List Call) (n : ℕ) (z : Last) (p : Panel) → Counted n (trace_from panel n z p cs)
unfolding trace_from
counted [] n z p = tt
counted (c ∷ cs) n z p = (refl, counted cs _ _ (after_of p c).player)

panel-bound : (cs : List Call) (n : ℕ) (z : Last) (p : Panel) → Valid p.core.settings.last → AllBound p.core.settings (trace_from panel n z p cs)
unfolding trace_from
panel-bound [] n z p l = tt
panel-bound (c ∷ cs) n z p l =
    let s = set_so p l c in (
      record { block = heard p l c; none = no-sound p l c },
      subst (λ (x : InUse). AllBound x (trace_from panel (cycles_with (transition_of panel n z p c)) (last_with (transition_of panel n z p c)) (after_of p c).player cs)) s.0
          (panel-bound cs _ _ (after_of p c).player s.1),
    )

pub ceiling-binds : CeilingBinds
unfolding CeilingBinds
ceiling-binds u is g cs =
    bound-within u.chosen (first_in_use u) (trace_from panel 0 none (fresh u) cs) (counted cs 0 none (fresh u))
    (subst (λ (x : InUse). AllBound x (trace_from panel 0 none (fresh u) cs)) (ap (λ (h : History VoiceState). h.set) (fresh-own u is g))
    (panel-bound cs 0 none (fresh u) (fresh-invariant u is g).valid))

core-counted : (ls : List LentCall) (n : ℕ) (z : Last) (c : Core) → Counted n (lent_from n z c ls)
unfolding lent_from
core-counted [] n z c = tt
core-counted (l ∷ ls) n z c = (refl, core-counted ls _ _ _)

core-bound : (ls : List LentCall) (n : ℕ) (z : Last) (c : Core) → Valid c.settings.last → AllBound c.settings (lent_from n z c ls)
unfolding lent_from after_of
core-bound [] n z c l = tt
core-bound (x ∷ xs) n z c l =
    let p = panel_of c x.code x.vals in
    let m = transition_of (core x.code x.vals) n z c x.call in
    let s = set_so p l x.call in (
      record { block = heard p l x.call; none = no-sound p l x.call },
      subst (λ (y : InUse). AllBound y (lent_from (cycles_with m) (last_with m) (core_after x.code x.vals c x.call).player xs)) s.0
          (core-bound xs _ _ (core_after x.code x.vals c x.call).player s.1),
    )

set-in-range : (ls : List LentCall) (n : ℕ) (z : Last) (c : Core) → Valid c.settings.last → All SetInRange (lent_from n z c ls)
unfolding lent_from after_of
set-in-range [] n z c l = tt
set-in-range (x ∷ xs) n z c l = (λ w t. l, set-in-range xs _ _ _ (set_so (panel_of c x.code x.vals) l x.call).1)

-- nothing sounds of a core that has ended
module _ (settings : ℕ → Settings) (m : Transition Core) (e : AsEnded m) where
  abbrev Quiet : After Core → Type 0
  Quiet a = is_zero a.answers ≡ true → (All (Within (settings m.cycles).ceiling) a.buffers.block) × (numbered m.call ≡ true → ⊥)

  quiet-burst : (bytes area : List ℕ) → numbered m.call ≡ false → (b : Burst) → Quiet (ended_burst m.before bytes area b)
  quiet-burst bytes area w (fault a) = λ t. (tt, λ v. false≢true (sym w ∙ v))
  quiet-burst bytes area w (units us) =
      either_way Quiet (leb (length us) (length area)) (λ t. (tt, λ v. false≢true (sym w ∙ v))) (λ t. (tt, λ v. false≢true (sym w ∙ v)))

  quiet : (c : Call) → m.call ≡ c → Quiet (ended_after m.before c)
  quiet (submit d b) q = λ t. absurd (false≢true t)
  quiet (burst bytes area) q = quiet-burst bytes area (ap numbered q) (burst_of bytes)
  quiet (keyboard b) q = λ t. absurd (false≢true t)
  quiet (cycle b) q =
      either_way (λ (n : ℕ). eqb n 0 ≡ true → (All (Within (settings m.cycles).ceiling) b) × (numbered m.call ≡ true → ⊥)) (numbered (cycle b))
      (λ t. absurd (false≢true t)) (λ t. absurd (false≢true t))
  quiet (change area handed) q = λ t. absurd (false≢true t)
  quiet (undo area) q = λ t. absurd (false≢true t)

  ended-within : WithinCeiling settings m × SetInRange m
  ended-within = let x = subst⁻¹ Quiet e (quiet m.call refl) in ((λ t. (x t).0), λ w t. absurd ((x t).1 w))

both : (P Q : Transition Core → Type 0) (ms : List (Transition Core)) → All P ms → All Q ms → All (λ (m : Transition Core). P m × Q m) ms
both P Q [] p q = tt
both P Q (m ∷ ms) p q = ((p.0, q.0), both P Q ms p.1 q.1)

pub core-ceiling-binds : CoreCeilingBinds
unfolding CoreCeilingBinds CoreStaysEnded fresh_of
core-ceiling-binds u ls = go (start-kind u)
  where
    c : Core
    c = (fresh u).core

    ms : List (Transition Core)
    ms = lent_from 0 none c ls

    go : Kind u (starting_of u.orchestra u.area u.first u.chosen) → All (λ (m : Transition Core). WithinCeiling (settings u ms) m × SetInRange m) ms
    go (no_start e) = all_map AsEnded (λ (m : Transition Core). WithinCeiling (settings u ms) m × SetInRange m) (ended-within (settings u ms)) ms (core-stays-ended c e ls)
    go (starts e v) =
        let l : Valid c.settings.last = subst⁻¹ (λ (x : InUse). Valid x.last) e v in
        both (WithinCeiling (settings u ms)) SetInRange ms
        (bound-within u.chosen (first_in_use u) ms (core-counted ls 0 none c) (subst (λ (x : InUse). AllBound x ms) e (core-bound ls 0 none c l)))
        (set-in-range ls 0 none c l)

-- ---- the panel in two

module _ (code : List ℕ) (vals : List Float) where
  along : (cs : List Call) (n : ℕ) (z : Last) (c : Core) → lent_from n z c (lent_own (panel_of c code vals) cs) ≡ each transition_on_core (trace_from panel n z (panel_of c code vals) cs)
  unfolding lent_from trace_from each after_of
  along [] n z c = refl
  along (call ∷ cs) n z c =
      let m = transition_of (core code vals) n z c call in
      ap (λ (ms : List (Transition Core)). m ∷ ms) (along cs (cycles_with m) (last_with m) m.after.player)

  ends_as : (cs : List Call) (c : Core) → panel_of (after_all (core code vals) c cs) code vals ≡ after_all panel (panel_of c code vals) cs
  unfolding after_all after_of
  ends_as [] c = refl
  ends_as (call ∷ cs) c = ends_as cs (core_after code vals c call).player

pub core-as-panel : CoreAsPanel
unfolding CoreAsPanel
core-as-panel p c code vals e cs =
    subst (λ (q : Panel). GoesAsPanel q c code vals cs) e (record { transitions = along code vals cs 0 none c; left = ends_as code vals cs c })

pub core-told : CoreTold
unfolding CoreTold CoreAsPanel CycleByTree
core-told u is g c code vals e cs = ap (λ (p : Panel). display_of p.core) (core-as-panel (fresh u) c code vals e cs).left ∙ (cycle-by-tree u is g cs).0.told
