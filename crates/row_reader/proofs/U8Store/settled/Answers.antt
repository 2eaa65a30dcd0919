-- `settled` tells the pairs at once.
use Rattle.std.proofs.Common.{◌≡◌, arith}
use Rattle.row_reader.specs.Wire.{symbols_in}
use Rattle.row_reader.proofs.Lookups.{told_none, told_more, all_told}
use Rattle.row_reader.proofs.Symbols.{count_in, pair_in}
use Rattle.row_reader.proofs.U8Store.settled.Goals as goal

pub loop-k-init : goal.loop-k-init
loop-k-init c = told_none (symbols_in c.args.lent.now) 0 1

pub loop-k-preserved : goal.loop-k-preserved
loop-k-preserved c =
    let l = c.loop-k in
    let e = pair_in c.args.lent.now c.type_inv.lent _ c.as_chunks.ensures.front l.k (omega arith) _ c.joined-pair.ensures in
    told_more (symbols_in c.args.lent.now) l.k l.above l.all _ _ _ e.0 e.1 c.data_bit.ensures c.data_bit-in-loop-k.ensures l.invariant

pub returns-then-above-all : goal.returns-then-above-all
returns-then-above-all c =
    let l = c.loop-k in
    let n = count_in c.args.lent.now in
    let all : l.k ≡ c.min-n.result = omega arith in
    record { within = omega arith; «data» = rw all at (all_told _ l.above l.all _ c.if-above-all.true l.invariant) }
