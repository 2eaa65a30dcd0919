-- `island::Bits::of` meets its contract.
use mathlib.Core.Path.{subst, sym}
use Rattle.island.specs.Words.{Header, Rows}
use Rattle.island.proofs.Characters.{header_of}
use Rattle.island.proofs.Streams.{subpackets_side_by_side}
use Rattle.island.proofs.Bits.of.Goals as goal

pub returns-clause-header : goal.returns-clause-header
returns-clause-header c =
    let chunk = rw c.unwrap.ensures at c.first_chunk.ensures.cases in
    subst (Header c.args.packet.now 0) (sym c.from_le_bytes.ensures) (header_of c.args.packet.now c.unwrap.result.now c.fits-packet chunk.same)

pub returns-clause-rows : goal.returns-clause-rows
unfolding Rows
returns-clause-rows c = λ j h.
    subpackets_side_by_side c.args.packet.now j _ _ _ _ _ h c.subpacket.ensures c.subpacket-2.ensures c.subpacket-3.ensures c.subpacket-4.ensures
    (λ i s o hi hs ho. c.all_side_by_side.ensures j i s o h hi hs ho)
