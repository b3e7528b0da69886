use mathlib.Core.Bool.{true}
use lib.Dec.{eqb}
use Rattle.code_program.proofs.Finding.{get_take, in_take}
use mathlib.Core.Path.{◌≡◌, refl, ap, sym, ◌∙◌}
use Prim.Native.Nat.{ℕ, ◌≤◌, ◌-◌}
use native.Mathlib.Omega.{arith}
use lib.ListN.{length, take, drop, length-take, length-map}
use borrow.Author.Tests.{eq-eqb, ne_eqb}
use Rattle.base_laws.proofs.Lists.{take_min}
use Rattle.std.specs.Prelude.{Some}
use Rattle.code_program.specs.InstrumentTable.{lookup_in}
use Rattle.code_program.specs.declared.Instrument.{Instrument}
use Rattle.code_program.proofs.Finding.{found-no, found-yes, found-end}
use Rattle.code_program.proofs.find.Goals as goal

pub loop-i-init : goal.loop-i-init
loop-i-init c =
    (omega (arith, c.min-m.ensures), omega (arith, c.min-m.ensures), refl)

pub returns-then-x-name : goal.returns-then-x-name
returns-then-x-name c =
    let most = c.min-m in
    let at = c.loop-i in
    let t = c.args.instruments.table in
    let long : length t ≡ 8 = omega arith in
    let g = get_take t most.result 8 _ at.i long (omega (arith, at.invariant.1)) c.loop-i-test.true _ in
    let h = in_take t most.result 8 _ at.i long (omega (arith, at.invariant.1)) c.loop-i-test.true in
    ap Some (sym g)
    ∙ found-yes _ _ _ _ _ h (ap (λ (x : Instrument). eqb x.name c.args.name) g ∙ eq-eqb _ _ c.if-x-name.true) at.invariant.2
    ∙ ap (lookup_in c.args.name) (ap (λ (k : ℕ). take k t) most.ensures ∙ take_min t c.args.instruments.count 8 long)

pub loop-i-preserved : goal.loop-i-preserved
loop-i-preserved c =
    let most = c.min-m in
    let at = c.loop-i in
    let t = c.args.instruments.table in
    let long : length t ≡ 8 = omega arith in
    let g = get_take t most.result 8 _ at.i long (omega (arith, at.invariant.1)) c.loop-i-test.true _ in
    let h = in_take t most.result 8 _ at.i long (omega (arith, at.invariant.1)) c.loop-i-test.true in
    (omega arith, at.invariant.1, found-no _ _ _ _ _ h (ap (λ (x : Instrument). eqb x.name c.args.name) g ∙ ne_eqb _ _ c.if-x-name.false) at.invariant.2)

pub returns : goal.returns
returns c =
    let most = c.min-m in
    let at = c.loop-i in
    let t = c.args.instruments.table in
    let long : length t ≡ 8 = omega arith in
    let h : length (take most.result t) ≤ at.i = omega (arith, length-take most.result t, c.loop-i-test.false) in
    found-end _ _ _ _ h at.invariant.2 ∙ ap (lookup_in c.args.name) (ap (λ (k : ℕ). take k t) most.ensures ∙ take_min t c.args.instruments.count 8 long)
