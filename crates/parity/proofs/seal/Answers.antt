-- `parity::seal`: refused where the packet isn't 36 bytes, else five stores, none of which touches another block's data bytes.
use mathlib.Core.Path.{refl, ap, ◌∙◌}
use native.Mathlib.Omega.{arith}
use borrow.Author.Tests.{eq-eqb}
use lib.ListN.{length}
use Rattle.parity.proofs.Stores.{stored, stored_sealed}
use Rattle.parity.proofs.seal.Goals as goal

pub returns : goal.returns
returns c =
    let packet = c.args.packet.now in
    let sealed =
    c.seal_block-5.ensures
    ∙ ap (stored 28 35)
    (c.seal_block-4.ensures
    ∙ ap (stored 20 27)
    (c.seal_block-3.ensures ∙ ap (stored 12 19) (c.seal_block-2.ensures ∙ ap (stored 4 11) c.seal_block.ensures)))
    ∙ stored_sealed packet (omega arith) in
    rw (eq-eqb (length packet) 36 (omega arith)) (refl, sealed)
