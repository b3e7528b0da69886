-- What changes and undos leave of a panel.
use mathlib.Core.Path.{◌≡◌, refl, sym, ap, ◌∙◌, subst}
use mathlib.Core.Bool.{Bool, true, false, cond, true≢false}
use mathlib.Core.List.{List}
use Prim.Native.Nat.{ℕ, ◌-◌}
use lib.Dec.{eqb}
use borrow.Author.Tests.{eqb-true}
use Rattle.base_answer.specs.Numbers.{number_of, is_taken}
use Rattle.base_answer.specs.declared.Answer.TheVariants.{Ended}
use Rattle.settings_records.specs.Form.{Valid, Parses}
use Rattle.settings_records.specs.inside.Reading.{found_in, records_in}
use Rattle.settings_records.specs.Changes as records
use Rattle.settings_records.specs.declared.InUse.{InUse}
use Rattle.settings_records.specs.Form.{Found}
use Rattle.base_answer.specs.declared.Answered.{Answered}
use Rattle.settings_records.proofs.Changing.{change-joins}
use Rattle.settings_records.proofs.Meaning.{every-record}
use Rattle.settings_records.proofs.Areas.{all-valid}
use Rattle.settings_records.proofs.Stack.{changed-taken, refused-change, refused-undo}
use Rattle.settings_records.proofs.Sets.{change-sets, change-valid, undo-sets, undo-fewer, undo-valid}
use Rattle.player_model.specs.Calls.{Call, change, undo, one, only_settings, buffers_of, After, is_zero}
use Rattle.player_model.specs.Set.{set_by}
use Rattle.player_model.proofs.Lists.{by-test, cond-true, cond-false}
use Rattle.panel.specs.State.{with_in_use}
use Rattle.panel.specs.Calls.{changed_in, area_in, undone_in, change_of, area_changed, undo_of}
use Rattle.panel.specs.declared.Panel.{Panel}
use Rattle.panel_claims.specs.Claims.{core_after, after_of, unchanged, settings_set, TakenSettings}

pub laid-there : (k : InUse) (area handed : List ℕ) → is_taken (records.change_of k area handed).answer ≡ true
    → records.area_changed k.count area handed ≡ records.laid_at (records_in k.count area).size handed area
unfolding records.area_changed
laid-there k area handed t =
    let c = changed-taken k area handed t in
    cond-true _ _ c ∙ ap (λ (f : Found). records.laid_at f.size handed area) (change-joins k.count area handed c).gives

-- a change or an undo: taken, or refused
pub data Sets (p : Panel) (c : Call) (left : List ℕ) (a : After Panel) : Type 0 where
  set-taken : p.core.state.playing.ended ≡ false → Valid (set_by p.core.settings c).last → a ≡ settings_set p (set_by p.core.settings c) left → Sets p c left a
  set-refused : (n : ℕ) → eqb n 0 ≡ false → a ≡ unchanged p c n → Sets p c left a

-- what is left of a panel for a result and an area
abbrev after : Panel → Answered InUse → List ℕ → After Panel
after p r area = record { player = with_in_use p r.left; answers = one (number_of r.answer) 0; buffers = only_settings area }

-- what a call sets that is taken, and the area that it leaves
record Taking (p : Panel) (c : Call) (left : List ℕ) (x : Answered InUse) (y : List ℕ) : Type 0 where
  settings : x.left ≡ set_by p.core.settings c
  area : y ≡ left
  valid : Valid (set_by p.core.settings c).last

module _ (p : Panel) (area : List ℕ) where
  abbrev ended : Bool
  ended = p.core.state.playing.ended

  abbrev over : Answered InUse
  over = records.changed p.core.settings Ended

  -- 9 first; then x is the result, and z the area
  sets-so : (c : Call) (left : List ℕ) (x : Answered InUse) (y z : List ℕ) → buffers_of c ≡ only_settings area → (ended ≡ true → z ≡ area) → (ended ≡ false → z ≡ y)
      → (is_taken x.answer ≡ true → Taking p c left x y) → (is_taken x.answer ≡ false → (x.left ≡ p.core.settings) × (y ≡ area))
      → Sets p c left (after p (cond ended over x) z)
  sets-so c left x y z b f g t r =
      by-test ended
      (λ e. set-refused 9 refl ((λ i. after p (cond-true over x e i) (f e i)) ∙ (λ i. record { player = p; answers = one 9 0; buffers = sym b i })))
      (λ e. by-test (is_taken x.answer)
      (λ q. set-taken e (t q).valid
      ((λ i. after p (cond-false over x e i) (g e i))
      ∙ (λ i. record { player = with_in_use p ((t q).settings i); answers = one (eqb-true (number_of x.answer) 0 q i) 0; buffers = only_settings ((t q).area i) })))
      (λ q. set-refused (number_of x.answer) q
      ((λ i. after p (cond-false over x e i) (g e i))
      ∙ (λ i. record { player = with_in_use p ((r q).0 i); answers = one (number_of x.answer) 0; buffers = only_settings ((r q).1 i) })
      ∙ (λ i. record { player = p; answers = one (number_of x.answer) 0; buffers = sym b i }))))

  -- where a change lays its record
  abbrev pub behind_used : List ℕ → List ℕ
  behind_used handed = records.laid_at (records_in p.core.settings.count area).size handed area

  pub changes : (handed : List ℕ) → Sets p (change area handed) (behind_used handed) (after_of p (change area handed))
  unfolding after_of core_after change_of changed_in area_in
  changes handed =
      let k = p.core.settings in
      sets-so (change area handed) (behind_used handed) (records.change_of k area handed) (records.area_changed k.count area handed) _ refl
      (λ e. cond-true _ _ e) (λ e. cond-false _ _ e)
      (λ t. record { settings = change-sets k area handed t; area = laid-there k area handed t; valid = change-valid k area handed t })
      (λ t. refused-change k area handed t)

  pub undoes : Sets p (undo area) area (after_of p (undo area))
  unfolding after_of core_after undo_of undone_in
  undoes =
      let k = p.core.settings in
      sets-so (undo area) area (records.undo_of k area) area area refl (λ e. refl) (λ e. refl)
      (λ t. record { settings = undo-sets k area t; area = refl; valid = undo-valid k area t }) (λ t. (refused-undo k area t, refl))

-- ---- for every panel

module _ (p : Panel) (area : List ℕ) where
  change-zero : (handed : List ℕ) → is_zero (after_of p (change area handed)).answers ≡ true → is_taken (records.change_of p.core.settings area handed).answer ≡ true
  unfolding after_of core_after change_of changed_in
  change-zero handed t =
      by-test p.core.state.playing.ended (λ e. absurd (true≢false (sym t ∙ ap (λ (x : Answered InUse). is_taken x.answer) (cond-true _ _ e))))
      (λ e. ap (λ (x : Answered InUse). is_taken x.answer) (sym (cond-false _ _ e)) ∙ t)

  undo-zero : is_zero (after_of p (undo area)).answers ≡ true → is_taken (records.undo_of p.core.settings area).answer ≡ true
  unfolding after_of core_after undo_of undone_in
  undo-zero t =
      by-test p.core.state.playing.ended (λ e. absurd (true≢false (sym t ∙ ap (λ (x : Answered InUse). is_taken x.answer) (cond-true _ _ e))))
      (λ e. ap (λ (x : Answered InUse). is_taken x.answer) (sym (cond-false _ _ e)) ∙ t)

-- what is left of a call that is answered 0
so : {p : Panel} {c : Call} {left : List ℕ} → Sets p c left (after_of p c) → is_zero (after_of p c).answers ≡ true → after_of p c ≡ settings_set p (set_by p.core.settings c) left
so (set-taken e l x) t = x
so (set-refused n z x) t = absurd (true≢false (sym t ∙ ap (λ (a : After Panel). is_zero a.answers) x ∙ z))

pub taken-settings : TakenSettings
unfolding TakenSettings
taken-settings p area = (
  (λ handed t. let j = change-joins p.core.settings.count area handed (changed-taken p.core.settings area handed (change-zero p area handed t)) in
      record {
        setting = (found_in handed).setting;
        new = subst (Parses handed) j.new (every-record handed);
        last = (records_in p.core.settings.count area).setting;
        size = (records_in p.core.settings.count area).size;
        valid = all-valid p.core.settings.count area j.stands;
        left = so (changes p area handed) t;
      }),
  (λ t. record {
    setting = (records_in (p.core.settings.count - 1) area).setting;
    size = (records_in (p.core.settings.count - 1) area).size;
    valid = all-valid (p.core.settings.count - 1) area (undo-fewer p.core.settings area (undo-zero p area t));
    left = so (undoes p area) t;
  }),
)
