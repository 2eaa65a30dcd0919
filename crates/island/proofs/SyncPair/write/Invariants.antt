-- `island::SyncPair::write`: the words before character 4 i + j are the island's, and the packet's bits from character 4 i on stand at the low end.
use Prim.Native.Nat.{◌+◌, ◌*◌}
use Rattle.laws.specs.Front.{Front}
use Rattle.hdmi.specs.Island.{island}
use Rattle.island.proofs.Filling.{Sent}
use Rattle.island.proofs.SyncPair.write.Given as goal

abbrev pub invariant-loop-i : goal.invariant-loop-i
invariant-loop-i l = Sent l.self.hv l.packet l.i l.bits.header l.bits.rows l.words

abbrev pub invariant-loop-j : goal.invariant-loop-j
invariant-loop-j l = Front (island l.self.hv l.packet) (2 + 4 * l.i + l.j) l.words
