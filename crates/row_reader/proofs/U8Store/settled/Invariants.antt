-- `settled` tells the pairs at once.
use Prim.Native.Nat.{◌*◌}
use Rattle.row_reader.specs.Wire.{symbols_in}
use Rattle.row_reader.proofs.Lookups.{Told}
use Rattle.row_reader.proofs.U8Store.settled.Given as goal

abbrev pub invariant-loop-k : goal.invariant-loop-k
invariant-loop-k l = Told (symbols_in l.lent) l.above l.all (2 * l.k)
