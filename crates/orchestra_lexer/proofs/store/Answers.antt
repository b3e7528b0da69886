use Prim.Native.Nat.{◌-◌}
use native.Mathlib.Omega.{arith}
use borrow.Author.Rules.{rules}
use Rattle.orchestra_lexer.proofs.Storing.{Filled, starts, valid-here, room-left, again, ends}
use Rattle.orchestra_lexer.proofs.store.Goals as goal

pub loop-n-init : goal.loop-n-init
loop-n-init c =
    search starts

pub token_from-requires : goal.token_from-requires
token_from-requires c =
    search (rules, valid-here, room-left)

pub bounds-tokens-n : goal.bounds-tokens-n
bounds-tokens-n c =
    search (rules, valid-here, room-left)

pub overflow_add-at : goal.overflow_add-at
overflow_add-at c =
    search (rules, valid-here, room-left)

pub loop-n-preserved : goal.loop-n-preserved
loop-n-preserved c =
    search again

pub returns : goal.returns
returns c =
    search ends
