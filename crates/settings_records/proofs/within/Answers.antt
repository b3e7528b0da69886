use Rattle.settings_records.proofs.Ways.{low, at_most}
use Rattle.settings_records.proofs.within.Goals as goal

pub returns-then-x-lt1 : goal.returns-then-x-lt1
returns-then-x-lt1 c =
    search low

pub returns : goal.returns
returns c =
    search at_most
