-- When the settings act that a host is told, and the starting tempo.
use mathlib.Core.Path.{◌≡◌, ap, ◌∙◌, subst⁻¹}
use mathlib.Core.Bool.{true, false}
use mathlib.Core.List.{List, [], ◌∷◌}
use Prim.Native.Nat.{ℕ}
use native.Mathlib.Omega.{arith}
use Rattle.code_loader.specs.Loading.{load_of}
use Rattle.code_loader_claims.specs.Claims.{StandsFor}
use Rattle.code_program.specs.declared.Program.{Program}
use Rattle.orchestra_syntax.specs.Tree.{Instrument}
use Rattle.settings_records.specs.Changes.{in_use}
use Rattle.settings_records.specs.Form.{Found}
use Rattle.settings_records.specs.declared.InUse.{InUse}
use Rattle.settings_records.proofs.Meaning.{one-meaning}
use Rattle.player_model.specs.Lists.{All}
use Rattle.player_model.specs.PlayerState.{Settings}
use Rattle.player_model.specs.Calls.{Call, numbered, Last, none, Transition, cycles_with, last_with, transition_of, trace_from, after_all}
use Rattle.player_model.specs.Set.{in_force, starting_tempo}
use Rattle.player_model.specs.History.{History, history_from}
use Rattle.player_model.specs.SettingsResults.{TempoOfFreshStart}
use Rattle.player_model.proofs.BySettings.{Agree, next_set, set_after, agree-here, agree_after}
use Rattle.player_model.proofs.Settings.{tempo-of-fresh-start}
use Rattle.voices_compiled.specs.Voices.{VoiceState}
use Rattle.voices_resolved.specs.Tree.{tree_voices}
use Rattle.voices_source.specs.Voices.{written_voices}
use Rattle.panel.specs.declared.Panel.{Panel}
use Rattle.panel_claims.specs.Claims.{after_of, panel, first_in_use, fresh, settings, FirstSets, CycleByTree}
use Rattle.panel_claims.specs.Told.{ToldAct, FirstTempo}
use Rattle.panel_claims.proofs.Past.{own, Invariant, invariant-all, own-all, stands, fresh-invariant, fresh-own}
use Rattle.panel_claims.proofs.Written.{cycle-by-tree}

pub first-sets : FirstSets
first-sets u is g = ap (λ (f : Found). in_use 1 f.setting) (one-meaning u.first _ g.first)

-- ---- the settings of each cycle

module _ (program : Program) (chosen : ℕ) (is : List Instrument) (r : StandsFor is program) (settings : ℕ → Settings) where
  abbrev Told : Transition Panel → Type 0
  Told m = numbered m.call ≡ true → settings m.cycles ≡ in_force chosen m.before.core.settings

  panel-set : (n : ℕ) (z : Last) (p : Panel) → Invariant program chosen is r p → (c : Call) → (after_of p c).player.core.settings ≡ next_set p.core.settings (transition_of panel n z p c)
  unfolding after_all history_from trace_from
  panel-set n z p k c =
      ap (λ (h : History VoiceState). h.set) (own-all program chosen is r (c ∷ []) n z p k)
      ∙ set_after (tree_voices is) chosen (own p) (transition_of panel n z p c)

  told-all : (cs : List Call) (n : ℕ) (z : Last) (p : Panel) → Invariant program chosen is r p → Agree chosen settings n p.core.settings (trace_from panel n z p cs)
      → All Told (trace_from panel n z p cs)
  unfolding trace_from after_all
  told-all [] n z p k a = tt
  told-all (c ∷ cs) n z p k a =
      let m = transition_of panel n z p c in
      let q = (after_of p c).player in
      let later = trace_from panel (cycles_with m) (last_with m) q cs in (
        agree-here chosen settings n p.core.settings m later a,
        told-all cs (cycles_with m) (last_with m) q (invariant-all program chosen is r (c ∷ []) p k)
            (subst⁻¹ (λ (x : InUse). Agree chosen settings (cycles_with m) x later) (panel-set n z p k c) (agree_after chosen settings p.core.settings m later a)),
      )

pub told-act : ToldAct
unfolding ToldAct Agree
told-act u is g cs =
    let ms = trace_from panel 0 none (fresh u) cs in
    told-all (load_of u.orchestra).left u.chosen is (stands u is g) (settings u ms) cs 0 none (fresh u) (fresh-invariant u is g)
    (subst⁻¹ (λ (x : InUse). Agree u.chosen (settings u ms) 0 x ms) (ap (λ (h : History VoiceState). h.set) (fresh-own u is g))
    (λ n j q. ap (settings u ms) (let same : n ≡ j = omega (arith, q) in same)))

-- ---- the starting tempo

transitions-of : (cs : List Call) (n : ℕ) (z : Last) (p : Panel) → All (λ (c : Call). numbered c ≡ false) cs
    → All (λ (m : Transition Panel). numbered m.call ≡ false) (trace_from panel n z p cs)
unfolding trace_from
transitions-of [] n z p a = tt
transitions-of (c ∷ cs) n z p a =
    let m = transition_of panel n z p c in (a.0, transitions-of cs (cycles_with m) (last_with m) (after_of p c).player a.1)

pub first-tempo : FirstTempo
unfolding FirstTempo CycleByTree TempoOfFreshStart
first-tempo u is g cs a =
    (cycle-by-tree u is g cs).0.holds.tempo
    ∙ tempo-of-fresh-start (written_voices is) Panel u.chosen (first_in_use u) (trace_from panel 0 none (fresh u) cs) (transitions-of cs 0 none (fresh u) a)
    ∙ ap starting_tempo (first-sets u is g)
