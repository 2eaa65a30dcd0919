-- `blocks::join_words`: the header stands, and the subpackets before place s.
use Rattle.blocks.proofs.Laying.{Laid}
use Rattle.blocks.proofs.join_words.Given as goal

abbrev pub invariant-loop-s : goal.invariant-loop-s
invariant-loop-s l = Laid l.fn.header l.fn.subpackets l.s l.packet
