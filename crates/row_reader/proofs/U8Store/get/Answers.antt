-- `get` joins a symbol's two bytes.
use Rattle.std.proofs.Common.{arith}
use Rattle.row_reader.proofs.Symbols.{count_in, symbol_in}
use Rattle.row_reader.proofs.U8Store.get.Goals as goal

pub returns : goal.returns
returns c = let n = count_in c.args.lent.now in omega (arith, symbol_in c.args.lent.now c.args.i (omega arith))
