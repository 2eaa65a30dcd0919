-- `fill` writes the whole row.
use Rattle.std.proofs.Common.{arith}
use Rattle.row.proofs.Turns.{written_none, written_more, written_all}
use Rattle.row.proofs.fill.Goals as goal

pub loop-i-init : goal.loop-i-init
loop-i-init g c = written_none g.S.Store.laws _ _ _

pub loop-i-preserved : goal.loop-i-preserved
loop-i-preserved g c =
    let l = c.loop-i in
    written_more g.S.Store.laws c.args.bytes.now l.out _ _ _ l.i _ _ c.loop-i-test.true c.send-symbol.ensures c.put.ensures l.invariant

pub returns : goal.returns
returns g c =
    let l = c.loop-i in
    let r = written_all g.S.Store.laws c.args.bytes.now l.out _ _ l.i (omega arith) (omega arith) l.invariant in
    record { end = r.0; out_after = r.1 }
