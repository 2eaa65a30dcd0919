-- `island_reader::blocks`: the subpackets before s are right.
use mathlib.Core.Path.{◌≡◌}
use mathlib.Core.Bool.{true}
use Prim.Native.Nat.{ℕ, ◌<◌}
use Rattle.hdmi.specs.Parity.{right}
use Rattle.hdmi.specs.Packet.{header, subpacket}
use Rattle.island_reader.proofs.blocks.Given as goal

abbrev pub invariant-loop-s : goal.invariant-loop-s
invariant-loop-s l = (right 3 (header l.packet) ≡ true) × ((k : ℕ) → k < l.s → right 7 (subpacket k l.packet) ≡ true)
