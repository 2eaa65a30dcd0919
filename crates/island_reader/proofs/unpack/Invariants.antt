-- `island_reader::unpack`: the header's bytes before m, and then byte i of each subpacket, stand.
use Rattle.island_reader.specs.Numbers.{Unpacked}
use Rattle.island_reader.proofs.Unpacking.{Headed}
use Rattle.island_reader.proofs.unpack.Given as goal

abbrev pub invariant-loop-m : goal.invariant-loop-m
invariant-loop-m l = Headed l.found l.m l.packet

abbrev pub invariant-loop-i : goal.invariant-loop-i
invariant-loop-i l = Unpacked l.found l.i l.packet
