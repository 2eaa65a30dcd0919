-- `island_reader::header_bit` meets its contract.
use mathlib.Core.Path.{refl}
use native.Mathlib.Omega.{arith}
use Rattle.laws.specs.Bit.{bit}
use Rattle.island_reader.specs.Numbers.{header_in}
use Rattle.island_reader.proofs.header_bit.Goals as goal

pub returns : goal.returns
unfolding header_in bit
returns c = (refl, omega arith)
