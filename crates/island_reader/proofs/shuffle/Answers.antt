-- `island_reader::shuffle` meets its contract: the code is two delta swaps.
use Rattle.island_reader.proofs.Regroup.{shuffled-bit}
use Rattle.island_reader.proofs.shuffle.Goals as goal

pub returns : goal.returns
returns c = shuffled-bit c.args.v
