-- `byte_of` is the decoder's chart.
use Rattle.charts.proofs.Decoding.{product_is_byte}
use Rattle.symbol.proofs.byte_of.Goals as goal

pub returns : goal.returns
returns c = product_is_byte c.args.symbol
