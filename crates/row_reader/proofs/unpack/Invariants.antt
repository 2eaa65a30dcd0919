-- `unpack` writes the bytes of a scanned row.
use Rattle.row_reader.specs.Along.{Unpacked}
use Rattle.row_reader.proofs.unpack.Given as goal

abbrev pub invariant-loop-i : goal.invariant-loop-i
invariant-loop-i g l = Unpacked (g.S.Store.symbols l.lent) l.out l.i
