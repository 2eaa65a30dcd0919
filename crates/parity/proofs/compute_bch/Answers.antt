-- `parity::compute_bch`: the fold of the register over the bytes.
use Rattle.std.proofs.Common.{arith, rules, tests, ◌∙◌}
use Rattle.std.proofs.lemmas.Iterator.{YieldsList-from_slice}
use Rattle.std.proofs.lemmas.Iterator.Consumers.{fold_from_yields_List}
use Rattle.hdmi.proofs.Parity.{eight}
use Rattle.parity.proofs.Running.{onward, run_through}
use Rattle.parity.proofs.compute_bch.Goals as goal

pub returns : goal.returns
unfolding eight
returns c =
    let block = c.args.block.now in
    fold_from_yields_List _ onward 0 c.fold.result c.fold.ensures.ran (YieldsList-from_slice block (cc)) (λ a x b q k. search (rules, tests))
    ∙ run_through block (λ i. omega (arith, c.type_inv.block i))
