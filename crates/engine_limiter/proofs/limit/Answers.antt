use mathlib.Core.Path.{◌∙◌}
use mir.Syntax.{w16}
use mir.Val.{to_z, of_z}
use mir.ValLaws.{to_z-of_z}
use borrow.Author.Rules.{rules}
use Rattle.engine_limiter.proofs.Loop.{again, block-done, mix-done}
use Rattle.engine_limiter.proofs.limit.Goals as goal

pub returns-then-mix-i : goal.returns-then-mix-i
returns-then-mix-i c =
    search mix-done

pub loop-i-preserved : goal.loop-i-preserved
loop-i-preserved c =
    let l = c.loop-i in
    let v = to_z w16 (of_z w16 c.sample.result) in
    let e = to_z-of_z w16 c.sample.result (record { sfits = c.sample.type_inv }) ∙ c.sample.ensures in
    again _ _ _ _ l.block l.i (search rules) v (search rules) (search rules) e

pub returns : goal.returns
returns c =
    search block-done
