-- One law for each way through a fresh start.
use mathlib.Core.Path.{◌≡◌, sym, ap, ◌∙◌}
use mathlib.Core.Bool.{Bool, true, false, cond}
use mathlib.Core.List.{List, []}
use Prim.Native.Nat.{ℕ}
use Rattle.base_answer.specs.Numbers.{is_taken}
use Rattle.base_answer.specs.declared.Answer.TheVariants.{NoInstrument}
use Rattle.settings_records.specs.Changes.{none_in_use, change_of, area_changed}
use Rattle.base_answer.specs.declared.Answered.{Answered}
use Rattle.player_model.proofs.Lists.{cond-true, cond-false}
use Rattle.code_program.specs.declared.Program.{Program}
use Rattle.code_loader.specs.Loading.{load_of as loaded_from}
use Rattle.player_start.specs.Starting.{start_of, refused_start, has_chosen, starting_of, area_started}
use Rattle.player_start.specs.declared.Start.{Start}
use Rattle.settings_records.specs.declared.InUse.{InUse}

-- a start, and the area that it leaves
module _ (orchestra area first : List ℕ) (chosen : ℕ) where
  abbrev pub Left : Start → List ℕ → Type 0
  Left x left = (x ≡ starting_of orchestra area first chosen) × (left ≡ area_started orchestra area first chosen)

  -- a refusal leaves the area
  refusal : {x : Start} → x ≡ starting_of orchestra area first chosen → is_taken x.answer ≡ false → Left x area
  unfolding area_started
  refusal e t = (e, sym (cond-false _ _ (ap (λ (y : Start). is_taken y.answer) (sym e) ∙ t)))

  module _ {c : Answered InUse} (ec : c ≡ change_of none_in_use area first) {b : Bool} (eb : b ≡ is_taken c.answer) where
    judged : is_taken (change_of none_in_use area first).answer ≡ b
    judged = ap (λ (x : Answered InUse). is_taken x.answer) (sym ec) ∙ sym eb

    pub bad-record : b ≡ false → {q : Program} → q ≡ (loaded_from []).left → {x : Start} → x ≡ refused_start q c.answer → Left x area
    unfolding starting_of start_of
    bad-record f {q} eq e =
        refusal (e ∙ (λ i. refused_start (eq i) (ec i).answer) ∙ sym (cond-false _ _ (judged ∙ f)))
        (ap (λ (y : Start). is_taken y.answer) e ∙ sym eb ∙ f)

    module _ (t : b ≡ true) {r : Answered Program} (er : r ≡ loaded_from orchestra) {d : Bool} (ed : d ≡ is_taken r.answer) where
      loaded : is_taken (loaded_from orchestra).answer ≡ d
      loaded = ap (λ (y : Answered Program). is_taken y.answer) (sym er) ∙ sym ed

      pub unaccepted : d ≡ false → {x : Start} → x ≡ refused_start r.left r.answer → Left x area
      unfolding starting_of start_of
      unaccepted f e =
          refusal (e ∙ ap (λ (y : Answered Program). refused_start y.left y.answer) er ∙ sym (cond-true _ _ (judged ∙ t) ∙ cond-false _ _ (loaded ∙ f)))
          (ap (λ (y : Start). is_taken y.answer) e ∙ sym ed ∙ f)

      module _ (u : d ≡ true) {h : Bool} (eh : h ≡ has_chosen r.left chosen) where
        by-choice : starting_of orchestra area first chosen
            ≡ cond h (start_of r.left (change_of none_in_use area first).left chosen false r.answer) (refused_start r.left NoInstrument)
        unfolding starting_of
        by-choice =
            cond-true _ _ (judged ∙ t) ∙ cond-true _ _ (loaded ∙ u)
            ∙ ap (λ (y : Answered Program). cond (has_chosen y.left chosen) (start_of y.left (change_of none_in_use area first).left chosen false y.answer)
            (refused_start y.left NoInstrument)) (sym er)
            ∙ ap (λ (z : Bool). cond z (start_of r.left (change_of none_in_use area first).left chosen false r.answer) (refused_start r.left NoInstrument)) (sym eh)

        pub absent : h ≡ false → {x : Start} → x ≡ refused_start r.left NoInstrument → Left x area
        unfolding start_of
        absent f e = refusal (e ∙ sym (by-choice ∙ cond-false _ _ f)) (ap (λ (y : Start). is_taken y.answer) e)

        pub started : h ≡ true → {w : Answered InUse} {left : List ℕ} → (w ≡ change_of none_in_use area first) × (left ≡ area_changed none_in_use.count area first) → {x : Start}
            → x ≡ start_of r.left w.left chosen false r.answer → Left x left
        unfolding area_started start_of
        started f {w} q e =
            let s = e ∙ ap (λ (y : Answered InUse). start_of r.left y.left chosen false r.answer) q.0 ∙ sym (by-choice ∙ cond-true _ _ f) in
            (s, q.1 ∙ sym (cond-true _ _ (ap (λ (y : Start). is_taken y.answer) (sym s ∙ e) ∙ sym ed ∙ u)))
