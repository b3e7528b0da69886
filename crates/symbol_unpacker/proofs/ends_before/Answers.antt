use Rattle.symbol_unpacker.proofs.Steps.{bytes-end}
use Rattle.symbol_unpacker.proofs.ends_before.Goals as goal

pub returns : goal.returns
returns c =
    bytes-end c.args.bytes c.args.end
