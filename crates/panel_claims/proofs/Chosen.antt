-- The chosen instrument is there exactly when some instrument of the tree has its name.
use mathlib.Core.Path.{◌≡◌, sym, ◌∙◌}
use mathlib.Core.Bool.{true, or-true, true≢false}
use mathlib.Core.List.{List, [], ◌∷◌, map}
use Prim.Native.Nat.{ℕ}
use lib.Dec.{eqb}
use borrow.Author.Tests.{eqb-true, eq-eqb}
use Rattle.orchestra_syntax.specs.Tree.{Instrument}
use Rattle.orchestra_syntax.specs.Names.{has, title_of}
use Rattle.player_model.specs.Lists.{Some, here, later}
use Rattle.player_model.proofs.Lists.{by-test}
use Rattle.code_program.specs.declared.Program.{Program}
use Rattle.code_loader_claims.specs.Claims.{StandsFor}
use Rattle.player_start.specs.Starting.{has_chosen}

named : (name : ℕ) {is : List Instrument} → Some (λ (i : Instrument). i.name ≡ name) is → has name (map title_of is) ≡ true
unfolding has
named name (here {x = i} q) = rw (eq-eqb i.name name q)
named name (later s) = rw (named name s, or-true)

found : (name : ℕ) (is : List Instrument) → has name (map title_of is) ≡ true → Some (λ (i : Instrument). i.name ≡ name) is
unfolding has
found name [] e = absurd (true≢false (sym e))
found name (i ∷ is) e = by-test (eqb i.name name) (λ q. here (eqb-true i.name name q)) (λ q. later (found name is (rw q at e)))

module _ (is : List Instrument) (program : Program) (r : StandsFor is program) (chosen : ℕ) where
  pub chosen-there : Some (λ (i : Instrument). i.name ≡ chosen) is → has_chosen program chosen ≡ true
  unfolding has_chosen
  chosen-there s = r.known chosen ∙ named chosen s

  pub there-chosen : has_chosen program chosen ≡ true → Some (λ (i : Instrument). i.name ≡ chosen) is
  unfolding has_chosen
  there-chosen e = found chosen is (sym (r.known chosen) ∙ e)
