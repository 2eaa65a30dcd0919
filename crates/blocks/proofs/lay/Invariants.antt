-- `blocks::lay`: the bytes before place i are copied.
use mathlib.Core.Path.{◌≡◌}
use lib.Seq.{paste}
use Rattle.blocks.proofs.lay.Given as goal

abbrev pub invariant-loop-i : goal.invariant-loop-i
invariant-loop-i g l = l.packet ≡ paste l.fn.packet l.at l.fn.block l.i
