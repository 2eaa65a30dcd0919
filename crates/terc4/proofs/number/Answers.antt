-- `terc4::number` meets its contract.
use mathlib.Core.Path.{ap, ◌∙◌}
use Prim.Native.Nat.{ℕ}
use native.Mathlib.Omega.{arith}
use lib.Dec.{ltb}
use lib.ListN.{length}
use Rattle.std.specs.Bool.{then_some}
use Rattle.hdmi.proofs.Terc4.{number_none}
use Rattle.terc4.proofs.Lookup.{number_at}
use Rattle.terc4.proofs.number.Goals as goal

-- above ten bits there is none
pub returns-in_err-n : goal.returns-in_err-n
returns-in_err-n c =
    let x : ℕ = c.args.symbol.0 in
    let long = ap length c.numbers.ensures in
    simp (number_none x (omega (arith, long, c.in_err-n.ensures.lookup.3))) c.from_residual.ensures

pub returns : goal.returns
returns c =
    let x : ℕ = c.args.symbol.0 in
    let at = c.in_ok-n.ensures.lookup.3 in
    let n = at.1 0 ∙ number_at c.numbers.result.now x c.numbers.ensures (omega (arith, ap length c.numbers.ensures)) in
    c.then_some.ensures ∙ ap (λ (n : ℕ). then_some (ltb n 16) n) n
