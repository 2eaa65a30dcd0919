-- `bch::after_byte`: the table's rule at x.
use Rattle.laws.proofs.Tables.{made_at}
use Rattle.hdmi.proofs.Parity.{eight}
use native.Mathlib.Omega.{arith}
use Rattle.bch.proofs.after_byte.Goals as goal

pub returns : goal.returns
unfolding eight
returns c = made_at eight 256 c.args.x (omega arith)
