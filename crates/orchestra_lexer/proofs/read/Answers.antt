use Rattle.std.specs.Prelude.{Err}
use Rattle.std.proofs.Common.{ap, ◌∙◌}
use Rattle.std.proofs.lemmas.Result.{err_from_is_err_and}
use Rattle.orchestra_lexer.proofs.Judging.{read-long, read_taken, read-refused}
use borrow.Author.Rules.{rules}
use Rattle.orchestra_lexer.proofs.read.Goals as goal

pub returns-then-bytes-gt-MOST_BYTES : goal.returns-then-bytes-gt-MOST_BYTES
returns-then-bytes-gt-MOST_BYTES c =
    search read-long

pub returns-in_err-count : goal.returns-in_err-count
returns-in_err-count c =
    let p = err_from_is_err_and c.from_residual.result c.from_residual.ensures.1 in
    read-refused c.args.bytes.now _ c.if-bytes-gt-MOST_BYTES.false c.scan.ensures c.in_err-count.was (p.1 ∙ ap Err p.2)

pub returns : goal.returns
returns c =
    search read_taken
