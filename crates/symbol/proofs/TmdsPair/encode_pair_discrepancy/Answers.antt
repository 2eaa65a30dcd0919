-- `TmdsPair::encode_pair_discrepancy` takes two steps of a lane from 0.
use mathlib.Core.Path.{◌≡◌}
use lib.Dec.{T}
use lib.IntN.{pos}
use mir.Syntax.{w32}
use mir.Val.{to_z, of_z}
use mir.Facts.{to_z-of_z}
use Rattle.dvi.specs.Symbol.{in_range, next_of}
use Rattle.dvi.proofs.Symbols.{range_fits, stays, symbol_small}
use Rattle.symbol.specs.Encode.{sent_for}
use Rattle.symbol.specs.Pair.{end_of}
use Rattle.symbol.proofs.TmdsPair.encode_pair_discrepancy.Goals as goal
use Rattle.symbol.proofs.TmdsPair.encode_pair_discrepancy.Goals.{After-step-s0, After-step-s1}

first_range : (c : After-step-s0) → T (in_range (next_of (pos 0) c.args.b0))
first_range c = stays (pos 0) tt _ c.ranges.b0.fits

first_read : (c : After-step-s0) → to_z w32 (of_z w32 c.step-s0.result.discrepancy) ≡ next_of (pos 0) c.args.b0
first_read c = rw c.step-s0.ensures (to_z-of_z (range_fits _ (first_range c)))

second_step : (c : After-step-s1) → c.step-s1.result ≡ sent_for (next_of (pos 0) c.args.b0) c.args.b1
second_step c = rw (first_read c.before.before.before.before) at c.step-s1.ensures

pub invariant_of-lane : goal.invariant_of-lane
invariant_of-lane c = record { in_range = rw (first_read (goal.at.invariant_of-lane c).After-step-s0) (first_range (goal.at.invariant_of-lane c).After-step-s0) }

pub packed-requires : goal.packed-requires
packed-requires c = (
  rw c.step-s0.ensures (symbol_small (pos 0) tt _ c.ranges.b0.fits),
  rw (second_step (goal.at.packed-requires c).After-step-s1) (symbol_small _ (first_range (goal.at.packed-requires c).After-step-s0) _ c.ranges.b1.fits),
)

pub returns : goal.returns
returns c =
    let r = stays _ (first_range (goal.at.returns c).After-step-s0) c.args.b1 c.ranges.b1.fits in
    let z = to_z-of_z (range_fits (end_of c.args.b0 c.args.b1) r) in
    rw (c.packed.ensures, second_step (goal.at.returns c).After-step-s1, z, c.step-s0.ensures)
