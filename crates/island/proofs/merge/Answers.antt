-- `island::merge` meets its contract.
use mathlib.Core.Path.{refl}
use Rattle.island.specs.Words.{merged}
use Rattle.island.proofs.merge.Goals as goal

pub returns : goal.returns
unfolding merged
returns c = refl
