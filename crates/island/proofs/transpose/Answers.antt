-- `island::transpose` meets its contract: the code is the two delta swaps.
use Rattle.island.proofs.Characters.{transposed-bit}
use Rattle.island.proofs.transpose.Goals as goal

pub returns : goal.returns
returns c = transposed-bit c.args.v
