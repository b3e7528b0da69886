use Rattle.engine_k_passes.proofs.Stepping.{none-stepped}
use borrow.Author.Rules.{rules}
use Rattle.engine_k_passes.proofs.run_k_passes.Goals as goal

pub returns : goal.returns
returns c =
    record { notes = search none-stepped; behind = search rules }
