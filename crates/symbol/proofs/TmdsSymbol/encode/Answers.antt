-- `TmdsSymbol::encode` answers the lane's next step, or hands the discrepancy back.
use mathlib.Core.Path.{◌≡◌, ◌∙◌}
use mathlib.Core.Bool.{true, false}
use mir.Facts.{to_z-of_z}
use Rattle.laws.proofs.Truth.{T_true}
use Rattle.dvi.specs.Symbol.{in_range}
use Rattle.symbol.proofs.TmdsSymbol.encode.Goals as goal

pub returns-in_default : goal.returns-in_default
returns-in_default c =
    let out : in_range c.args.discrepancy ≡ false = rw (to_z-of_z c.ranges.discrepancy) at c.in_default.ensures in
    rw (c.handing_back.ensures, to_z-of_z c.ranges.discrepancy, out)

pub returns : goal.returns
returns c =
    let same : c.in-Some.lane.discrepancy ≡ c.args.discrepancy = c.in-Some.ensures ∙ to_z-of_z c.ranges.discrepancy in
    let inside : in_range c.args.discrepancy ≡ true = rw same at (T_true c.in-Some.lane.in_range) in
    rw (c.step.ensures, same, inside)
