use Rattle.symbol_lookup.proofs.Walk.{name-there}
use Rattle.symbol_lookup.proofs.name_in.Goals as goal

pub slice_bounds-result-count : goal.slice_bounds-result-count
slice_bounds-result-count c =
    c.place_in.ensures.ordered

pub returns : goal.returns
returns c =
    search name-there
