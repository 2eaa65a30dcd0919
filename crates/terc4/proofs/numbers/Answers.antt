-- `terc4::numbers` meets its contract: entry by entry, the const is what the rule makes.
use mathlib.Core.Path.{refl}
use Rattle.hdmi.specs.Terc4.{terc4, terc4_number}
use Rattle.terc4.proofs.numbers.Goals as goal

pub returns : goal.returns
unfolding terc4_number terc4
returns c = refl
