-- `TmdsPair::encode_pair` answers exactly where the pair ends at 0.
use mathlib.Core.Path.{sym, ap, ◌∙◌}
use Prim.Native.Nat.{ℕ, ◌<◌}
use lib.IntN.{pos}
use mir.Syntax.{w32}
use mir.Val.{of_z, SFits}
use Rattle.dvi.proofs.Symbols.{range_fits, stays}
use Rattle.symbol.specs.declared.Encoded.{Encoded}
use Rattle.symbol.specs.declared.TmdsPair.{TmdsPair}
use Rattle.symbol.specs.Pair.{end_of}
use Rattle.charts.proofs.Counting.{reads_zero, reads_other}
use Rattle.symbol.proofs.TmdsPair.encode_pair.Goals as goal

end_fits : (b c : ℕ) → b < 256 → c < 256 → SFits w32 (end_of b c)
end_fits b c h l = range_fits (end_of b c) (stays _ (stays (pos 0) tt b h) c l)

pub returns-then-end-eq0 : goal.returns-then-end-eq0
returns-then-end-eq0 c =
    let e = c.encode_pair_discrepancy-end.ensures in
    let z = reads_zero (end_of c.args.b0 c.args.b1) (end_fits _ _ c.ranges.b0.fits c.ranges.b1.fits)
    (sym (ap (λ (p : Encoded TmdsPair). of_z w32 p.discrepancy) e) ∙ c.if-end-eq0.true) in
    rw (e, z)

pub returns-else-end-eq0 : goal.returns-else-end-eq0
returns-else-end-eq0 c =
    let e = c.encode_pair_discrepancy-end.ensures in
    let z = reads_other (end_of c.args.b0 c.args.b1) (λ h. c.if-end-eq0.false (ap (λ (p : Encoded TmdsPair). of_z w32 p.discrepancy) e ∙ h)) in
    rw z
