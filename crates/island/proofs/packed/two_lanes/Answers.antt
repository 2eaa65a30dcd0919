-- `island::packed::two_lanes` meets its contract: the table has the rule at every entry.
use native.Mathlib.Omega.{arith}
use Rattle.laws.specs.Bit.{bit}
use Rattle.laws.proofs.Tables.{made_at}
use Rattle.hdmi.specs.Terc4.{terc4}
use Rattle.island.specs.Pairs.{two_lanes}
use Rattle.island.proofs.packed.two_lanes.Goals as goal

pub returns : goal.returns
unfolding two_lanes terc4 bit
returns c = made_at two_lanes 256 c.args.pairs (omega arith)
