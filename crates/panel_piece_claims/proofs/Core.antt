-- A core that is fed, lent its panel's own code, plays as the panel does.
use mathlib.Core.Path.{◌≡◌, refl, sym, ap, ◌∙◌, subst, subst⁻¹}
use mathlib.Core.List.{List, [], ◌∷◌, ◌++◌}
use Prim.Native.Nat.{ℕ, ◌+◌}
use lib.IntN.{ℤ}
use lib.Dec.{leb}
use lib.Ieee.{Float}
use lib.ListN.{drop}
use Rattle.score_line_writer.specs.Writing.{line_words}
use Rattle.player_model.specs.Lists.{each}
use Rattle.player_model.specs.Calls.{keypad, Call, submit, cycle, Last, none, After, Transition, cycles_with, last_with, transition_of, trace_from, after_all}
use Rattle.player_model.proofs.Lists.{by-test, either_way, cond-true, cond-false}
use Rattle.note_pool.proofs.Steps.{each_append}
use Rattle.panel.specs.State.{player_state_of, panel_of}
use Rattle.panel.specs.declared.Panel.{Panel}
use Rattle.panel.specs.declared.Core.{Core}
use Rattle.panel_claims.specs.Claims.{after_of, core_after, panel}
use Rattle.panel_claims.specs.Core.{core, transition_on_core, GoesAsPanel, CoreAsPanel}
use Rattle.panel_claims.proofs.Ceiling.{core-as-panel}
use Rattle.panel_feeder.specs.Order.{number_in, line_in, ticks_in_rank, order_of}
use Rattle.panel_feeder.specs.Feeding.{PanelHanded, handed_of, Feeds, fed_from, fed_of}
use Rattle.panel_piece_claims.specs.Playing.{Round, Seen, PlayedTo, performance, played_to, feeder}
use Rattle.panel_piece_claims.specs.Core.{core_feeder, FeedByContract, seen_on_core, PlaysAsPanel, CoreFedAsPanel}

abbrev core_of : Panel → Core
core_of p = p.core

abbrev on_core : After Panel → After Core
on_core a = record { player = a.player.core; answers = a.answers; buffers = a.buffers }

pub feed-by-contract : FeedByContract
unfolding FeedByContract
feed-by-contract c code vals area n at r e =
    ap (λ (f : Feeds Panel). record { player = core_of f.player; answer = f.answer; line = f.line; at = f.at }) (sym (e code vals))

module _ (code : List ℕ) (vals : List Float) where
  along : (cs : List Call) (n : ℕ) (z : Last) (c : Core) → trace_from (core code vals) n z c cs ≡ each transition_on_core (trace_from panel n z (panel_of c code vals) cs)
  unfolding trace_from each after_of
  along [] n z c = refl
  along (call ∷ cs) n z c =
      let m = transition_of (core code vals) n z c call in
      ap (λ (ms : List (Transition Core)). m ∷ ms) (along cs (cycles_with m) (last_with m) m.after.player)

  goes : (p : Panel) (c : Core) → panel_of c code vals ≡ p → (cs : List Call) → GoesAsPanel p c code vals cs
  unfolding CoreAsPanel
  goes p c e cs = core-as-panel p c code vals e cs

  -- core and code make this panel
  abbrev Made : Panel → Type 0
  Made q = panel_of (core_of q) code vals ≡ q

  made_after : (q : Panel) → Made q → (call : Call) → Made (after_of q call).player
  unfolding after_of
  made_after q e call = λ i. panel_of (after_of q call).player.core (e i).code (e i).vals

  module _ (area : List ℕ) (n : ℕ) where
    abbrev fc : ℕ → Core → Feeds Core
    fc = core_feeder code vals area n

    handed-made : (position rank : ℕ) (p : Panel) → Made p → Made (handed_of area position rank p).panel
    unfolding handed_of after_of core_after
    handed-made position rank p e =
        either_way (λ (x : PanelHanded). Made x.panel) (leb (ticks_in_rank rank) position) (made_after p e (submit keypad (line_words (line_in area (number_in rank))))) e

    from-made : (position at : ℕ) (ks : List ℕ) (p : Panel) → Made p → Made (fed_from area position p at ks).player
    unfolding fed_from
    from-made position at [] p e = e
    from-made position at (k ∷ ks) p e =
        let h = handed_of area position k p in
        by-test h.more
        (λ t. subst⁻¹ (λ (x : Feeds Panel). Made x.player) (cond-true _ _ t) (from-made position (at + 1) ks h.panel (handed-made position k p e)))
        (λ t. subst⁻¹ (λ (x : Feeds Panel). Made x.player) (cond-false _ _ t) (handed-made position k p e))

    feeds-made : (at : ℕ) (p : Panel) → Made p → Made (feeder area n at p).player
    unfolding fed_of
    feeds-made at p e =
        either_way (λ (x : Feeds Panel). Made x.player) (player_state_of p).plays.ended e (from-made (player_state_of p).plays.position at (drop at (order_of area n)) p e)

    -- one round
    module _ (p : Panel) (c : Core) (e : panel_of c code vals ≡ p) (at : ℕ) (r : Round) where
      abbrev p₁ : Panel
      p₁ = after_all panel p r.before

      abbrev c₁ : Core
      c₁ = after_all (core code vals) c r.before

      e₁ : panel_of c₁ code vals ≡ p₁
      e₁ = (goes p c e r.before).left

      abbrev q : Panel
      q = (feeder area n at p₁).player

      made : Made q
      made = feeds-made at p₁ (subst Made e₁ refl)

      feeds-same : fc at c₁ ≡ record { player = core_of q; answer = (feeder area n at p₁).answer; line = (feeder area n at p₁).line; at = (feeder area n at p₁).at }
      feeds-same = ap (λ (x : Panel). let f = feeder area n at x in record { player = core_of f.player; answer = f.answer; line = f.line; at = f.at }) e₁

      cycle-same : (k : ℕ) (z : Last) → transition_of (core code vals) k z (core_of q) (cycle r.block) ≡ transition_on_core (transition_of panel k z q (cycle r.block))
      unfolding after_of
      cycle-same k z = λ i. record { call = cycle r.block; cycles = k; last = z; before = core_of q; after = on_core (after_of (made i) (cycle r.block)) }

      calls_same : (k : ℕ) (z : Last) → trace_from (core code vals) k z c r.before ++ (transition_of (core code vals) k z (core_of q) (cycle r.block) ∷ [])
          ≡ each transition_on_core (trace_from panel k z p r.before ++ (transition_of panel k z q (cycle r.block) ∷ []))
      unfolding each
      calls_same k z =
          (λ i. (along r.before k z c ∙ ap (λ (x : Panel). each transition_on_core (trace_from panel k z x r.before)) e) i ++ (cycle-same k z i ∷ []))
          ∙ sym (each_append transition_on_core (trace_from panel k z p r.before) (transition_of panel k z q (cycle r.block) ∷ []))

    seen_same : (rs : List Round) (k : ℕ) (z : Last) (p : Panel) (c : Core) → panel_of c code vals ≡ p → (at : ℕ)
        → performance (core code vals) fc k z c at rs ≡ each seen_on_core (performance panel (feeder area n) k z p at rs)
    unfolding performance each after_of
    seen_same [] k z p c e at = refl
    seen_same (r ∷ rs) k z p c e at =
        let f = feeder area n at (p₁ p c e at r) in
        let m = transition_of panel k z f.player (cycle r.block) in
        ap (λ (x : Feeds Core). let t = transition_of (core code vals) k z x.player (cycle r.block) in
        record { told = x.answer; calls = trace_from (core code vals) k z c r.before ++ (t ∷ []) } ∷ performance (core code vals) fc (cycles_with t) (last_with t) t.after.player x.at rs)
        (feeds-same p c e at r)
        ∙ (λ i. let t = cycle-same p c e at r k z i in
        record { told = f.answer; calls = calls_same p c e at r k z i } ∷ performance (core code vals) fc (cycles_with t) (last_with t) t.after.player f.at rs)
        ∙ ap (λ (l : List (Seen Core)). seen_on_core (record { told = f.answer; calls = trace_from panel k z p r.before ++ (m ∷ []) }) ∷ l)
        (seen_same rs (cycles_with m) (last_with m) m.after.player (core_of m.after.player) (made_after f.player (made p c e at r) (cycle r.block)) f.at)

    -- where it comes to
    record SamePlace (x : PlayedTo Core) (y : PlayedTo Panel) : Type 0 where
      left : panel_of x.player code vals ≡ y.player
      place : x.at ≡ y.at

    place_same : (rs : List Round) (p : Panel) (c : Core) → panel_of c code vals ≡ p → (at : ℕ) → SamePlace (played_to (core code vals) fc c at rs) (played_to panel (feeder area n) p at rs)
    unfolding played_to after_of
    place_same [] p c e at = record { left = e; place = refl }
    place_same (r ∷ rs) p c e at =
        let f = feeder area n at (p₁ p c e at r) in
        let q' = (after_of f.player (cycle r.block)).player in
        subst⁻¹ (λ (x : Feeds Core). SamePlace (played_to (core code vals) fc (core_of (after_of (panel_of x.player code vals) (cycle r.block)).player) x.at rs)
        (played_to panel (feeder area n) q' f.at rs)) (feeds-same p c e at r)
        (subst⁻¹ (λ (x : Panel). SamePlace (played_to (core code vals) fc (core_of (after_of x (cycle r.block)).player) f.at rs) (played_to panel (feeder area n) q' f.at rs)) (made p c e at r)
        (place_same rs q' (core_of q') (made_after f.player (made p c e at r) (cycle r.block)) f.at))

pub core-fed-as-panel : CoreFedAsPanel
unfolding CoreFedAsPanel
core-fed-as-panel p c code vals e area n rounds =
    let x = place_same code vals area n rounds p c e 0 in
    record { seen = seen_same code vals area n rounds 0 none p c e 0; left = x.left; place = x.place }
