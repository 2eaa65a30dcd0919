-- `fill` writes the whole row.
use Rattle.charts.specs.Word.{unbiased, held}
use Rattle.row.proofs.Turns.{Written}
use Rattle.row.proofs.fill.Given as goal

abbrev pub invariant-loop-i : goal.invariant-loop-i
invariant-loop-i g l = Written g.S.Store.width g.S.Store.stored (unbiased (held l.fn.lane.state)) l.bytes l.out (unbiased (held l.lane.state)) l.i
