-- `unpack_front` writes the bytes of pairs.
use Prim.Native.Nat.{◌*◌}
use Rattle.row_reader.specs.Along.{Unpacked}
use Rattle.row_reader.specs.Wire.{symbols_in}
use Rattle.row_reader.proofs.U8Store.unpack_front.Given as goal

abbrev pub invariant-loop-k : goal.invariant-loop-k
invariant-loop-k l = Unpacked (symbols_in l.lent) l.out (2 * l.k)
