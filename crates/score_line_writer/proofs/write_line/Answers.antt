use borrow.Author.Rules.{rules}
use Rattle.score_line_writer.proofs.Writes.{line-writable, line-unwritten, line-written}
use Rattle.score_line_writer.proofs.write_line.Goals as goal

pub write_fields-requires : goal.write_fields-requires
write_fields-requires c =
    search (line-writable, rules)

pub returns-then-has_bits : goal.returns-then-has_bits
returns-then-has_bits c =
    search line-written

pub returns : goal.returns
returns c =
    search line-unwritten
