use native.Mathlib.Omega.{arith}
use mathlib.Core.Path.{◌∙◌}
use Rattle.orchestra_reader.proofs.Judging.{cells, few-cells}
use Rattle.orchestra_reader.proofs.Ending.{tokens-taken, tokens-not}
use borrow.Author.Rules.{rules}
use Rattle.orchestra_reader.proofs.read.Goals as goal

pub shared_ref_as_front-parsed : goal.shared_ref_as_front-parsed
shared_ref_as_front-parsed c =
    let s = tokens-taken c.args.bytes.now c.read.ensures c.in-Ok.is in omega (arith, s.few, s.cells)

pub slice_bounds-parsed-end : goal.slice_bounds-parsed-end
slice_bounds-parsed-end c =
    let s = tokens-taken c.args.bytes.now c.read.ensures c.in-Ok.is in cells _ _ s.few s.cells

pub parsed-requires : goal.parsed-requires
parsed-requires c =
    let s = tokens-taken c.args.bytes.now c.read.ensures c.in-Ok.is in few-cells _ _ s.few s.cells

pub returns-in-Ok : goal.returns-in-Ok
returns-in-Ok c =
    let s = tokens-taken c.args.bytes.now c.read.ensures c.in-Ok.is in c.parsed.ensures ∙ s.means

pub returns-in-Err : goal.returns-in-Err
returns-in-Err c =
    tokens-not c.args.bytes.now c.read.ensures c.in-Err.is c.refused.ensures
