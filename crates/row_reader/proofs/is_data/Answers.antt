-- `is_data` decides whether a number is a data symbol.
use Rattle.row_reader.proofs.Lookups.{tested}
use Rattle.row_reader.proofs.is_data.Goals as goal

pub returns : goal.returns
returns c = tested c.args.symbol _ c.data_bit.ensures
