-- `terc4::symbols` meets its contract: entry by entry, the const is what the rule makes.
use mathlib.Core.Path.{refl}
use Rattle.hdmi.specs.Terc4.{terc4}
use Rattle.terc4.proofs.symbols.Goals as goal

pub returns : goal.returns
unfolding terc4
returns c = refl
