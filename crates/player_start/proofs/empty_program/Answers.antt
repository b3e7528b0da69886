use mathlib.Core.Path.{ap}
use Rattle.base_answer.specs.declared.Answered.{Answered}
use borrow.Author.Rules.{rules}
use Rattle.code_program.specs.declared.Program.{Program}
use Rattle.player_start.proofs.empty_program.Goals as goal

pub returns : goal.returns
returns c =
    ap (λ (r : Answered Program). r.left) c.load-read.ensures
