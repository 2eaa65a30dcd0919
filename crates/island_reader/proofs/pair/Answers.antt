-- `island_reader::pair` meets its contract.
use mathlib.Core.Path.{sym, ap}
use Rattle.std.proofs.Common.{arith}
use Rattle.std.proofs.lemmas.Bool.Decides.{nat_tests}
use Rattle.hdmi.specs.Terc4.{terc4}
use Rattle.hdmi.specs.Island.{guard_word}
use Rattle.island_reader.specs.Found.{pair_of}
use Rattle.island_reader.proofs.pair.Goals as goal

pub returns-in-322227854 : goal.returns-in-322227854
unfolding pair_of guard_word terc4
returns-in-322227854 c = (sym (ap pair_of c.in-322227854.is), omega arith)

pub returns-in-322227825 : goal.returns-in-322227825
unfolding pair_of guard_word terc4
returns-in-322227825 c = (sym (ap pair_of c.in-322227825.is), omega arith)

pub returns-in-322227555 : goal.returns-in-322227555
unfolding pair_of guard_word terc4
returns-in-322227555 c = (sym (ap pair_of c.in-322227555.is), omega arith)

pub returns-in-322227907 : goal.returns-in-322227907
unfolding pair_of guard_word terc4
returns-in-322227907 c = (sym (ap pair_of c.in-322227907.is), omega arith)

pub returns-in_default : goal.returns-in_default
unfolding pair_of guard_word terc4
returns-in_default c = grind (arith, nat_tests)
