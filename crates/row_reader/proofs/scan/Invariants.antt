-- `scan` finds the first symbol that is no data symbol.
use Rattle.row_reader.specs.Along.{DataTo}
use Rattle.row_reader.proofs.scan.Given as goal

abbrev pub invariant-loop-i : goal.invariant-loop-i
invariant-loop-i g l = DataTo (g.S.Store.symbols l.lent) l.i
