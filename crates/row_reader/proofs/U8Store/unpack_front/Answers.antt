-- `unpack_front` writes the bytes of pairs.
use Rattle.std.proofs.Common.{◌≡◌, ◌+◌, ◌*◌, length-set, ap, ◌∙◌, arith}
use Rattle.dvi.specs.Decoder.{byte_of}
use Rattle.row_reader.specs.Wire.{symbols_in}
use Rattle.row_reader.proofs.Lookups.{data_short, first_low, unpacked_none, unpacked_more}
use Rattle.row_reader.proofs.Symbols.{count_in, pair_in}
use Rattle.row_reader.proofs.U8Store.unpack_front.Goals as goal

pub loop-k-init : goal.loop-k-init
loop-k-init c = unpacked_none _ _

pub second_byte_of-requires : goal.second_byte_of-requires
second_byte_of-requires c =
    let k = c.loop-k.k in
    let d = c.requires.«data» in
    let n = count_in c.args.lent.now in
    let e = pair_in c.args.lent.now c.type_inv.lent _ c.as_chunks.ensures.front k (omega arith) _ c.joined-pair.ensures in
    (rw e.0 (data_short _ (d (2 * k) (omega arith))), rw e.1 (data_short _ (d (2 * k + 1) (omega arith))))

pub bounds-out-at-in-loop-k : goal.bounds-out-at-in-loop-k
bounds-out-at-in-loop-k c = let n = count_in c.args.lent.now in simp length-set (omega arith)

pub loop-k-preserved : goal.loop-k-preserved
loop-k-preserved c =
    let l = c.loop-k in
    let d = c.requires.«data» in
    let ss = symbols_in c.args.lent.now in
    let n = count_in c.args.lent.now in
    let e = pair_in c.args.lent.now c.type_inv.lent _ c.as_chunks.ensures.front l.k (omega arith) _ c.joined-pair.ensures in
    let low = first_low _ _ e.0 (d (2 * l.k) (omega arith)) in
    let u = unpacked_more ss l.out (2 * l.k) _ (omega arith) (omega arith) (c.byte_of.ensures ∙ ap byte_of low) l.invariant in
    let v = unpacked_more ss _ (2 * l.k + 1) _ (omega arith) (simp length-set (omega arith)) (c.second_byte_of.ensures ∙ ap byte_of e.1) u in
    let same : 2 * l.k + 1 + 1 ≡ 2 * (l.k + 1) = omega arith in
    rw same at v

pub returns : goal.returns
returns c =
    let l = c.loop-k in
    let n = count_in c.args.lent.now in
    let all : l.k ≡ c.min-n.result = omega arith in
    record { within = omega arith; unpacked = rw all at l.invariant }
