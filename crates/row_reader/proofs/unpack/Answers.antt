-- `unpack` writes the bytes of a scanned row.
use Rattle.std.proofs.Common.{ℕ, ◌%◌, ap, ◌∙◌, arith}
use Rattle.dvi.specs.Decoder.{byte_of}
use Rattle.row_reader.proofs.Lookups.{data_low, unpacked_more, unpacked_all}
use Rattle.row_reader.proofs.unpack.Goals as goal

pub loop-i-init : goal.loop-i-init
loop-i-init g c = c.unpack_front-front.ensures.unpacked

pub loop-i-preserved : goal.loop-i-preserved
loop-i-preserved g c =
    let l = c.loop-i in
    let ss = g.S.Store.symbols c.args.lent.now in
    let low = data_low _ (c.requires.«data» l.i (omega arith)) in
    unpacked_more ss l.out l.i _ (omega arith) (omega arith) (c.byte_of.ensures ∙ ap byte_of (ap (λ (x : ℕ). x % 1024) c.get.ensures ∙ low)) l.invariant

pub returns : goal.returns
returns g c =
    let l = c.loop-i in
    unpacked_all (g.S.Store.symbols c.args.lent.now) l.out l.i (omega arith) (omega arith) l.invariant
