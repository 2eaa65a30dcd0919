-- `island::all_side_by_side` meets its contract.
use Rattle.island.proofs.Beside.{all_beside}
use Rattle.island.proofs.all_side_by_side.Goals as goal

pub returns : goal.returns
returns c = all_beside c.args.words _ _ _ _ c.side_by_side.ensures c.side_by_side-2.ensures c.side_by_side-3.ensures c.side_by_side-4.ensures
