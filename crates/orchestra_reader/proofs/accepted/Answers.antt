use Rattle.orchestra_reader.proofs.Judging.{cells, few-cells, kept-so}
use borrow.Author.Rules.{rules}
use Rattle.orchestra_reader.proofs.accepted.Goals as goal

pub slice_bounds-starts_of-end : goal.slice_bounds-starts_of-end
slice_bounds-starts_of-end c =
    search cells

pub starts_of-s-requires : goal.starts_of-s-requires
starts_of-s-requires c =
    search few-cells

pub returns : goal.returns
returns c =
    search kept-so
