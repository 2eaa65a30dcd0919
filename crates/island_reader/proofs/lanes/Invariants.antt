-- `island_reader::lanes`: the words before 2 + k are read, and their numbers found.
use Rattle.island_reader.proofs.Nibbles.{ReadBelow}
use Rattle.island_reader.proofs.lanes.Given as goal

abbrev pub invariant-loop-k : goal.invariant-loop-k
invariant-loop-k l = ReadBelow l.words l.k l.found
