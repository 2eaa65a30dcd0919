-- `inverts` is the chart's q_out[9].
use mathlib.Core.Path.{◌≡◌}
use mathlib.Core.Bool.{cond}
use mathlib.Core.Logic.{⊎_elim}
use Prim.Native.Nat.{◌/◌}
use borrow.Author.Tests.{eq-eqb, ne_eqb}
use lib.Dec.{eqb}
use lib.Count.{ones}
use lib.Bits.{bit_and}
use mir.Syntax.{w32}
use mir.Val.{of_z}
use lib.IntN.{pos, ◌*ℤ◌}
use Rattle.dvi.specs.Encoder.{complemented}
use Rattle.charts.proofs.Encoding.{level, same_side, choice_is_chart}
use Rattle.symbol.proofs.Lane.inverts.Goals as goal
use Rattle.symbol.proofs.Lane.inverts.Goals.{Joined-self-eq0}

by_chart : (c : Joined-self-eq0) → cond (level c.args.self.discrepancy c.args.word) (eqb (c.args.word / 256) 0) (same_side c.args.self.discrepancy c.args.word) ≡ complemented (pos 2 *ℤ c.args.self.discrepancy) c.args.word
by_chart c = choice_is_chart c.args.self.discrepancy c.args.self.in_range c.args.word c.requires

pub returns-then-ones-eq4 : goal.returns-then-ones-eq4
returns-then-ones-eq4 c =
    let by = by_chart (goal.at.returns-then-ones-eq4 c).Joined-self-eq0 in
    let d = of_z w32 c.args.self.discrepancy in
    let n = ones (bit_and c.args.word 255) in
    ⊎_elim
    (λ (e : d ≡ 0). simp (eq-eqb d 0 e) at by)
    (λ (e : (d ≡ 0 → ⊥) × (n ≡ 4)). simp (ne_eqb d 0 e.0, eq-eqb n 4 e.1) at by)
    c.if-ones-eq4.either

pub returns-else-ones-eq4 : goal.returns-else-ones-eq4
returns-else-ones-eq4 c = simp (ne_eqb _ 0 c.if-ones-eq4.false.0, ne_eqb _ 4 c.if-ones-eq4.false.1) at (by_chart (goal.at.returns-else-ones-eq4 c).Joined-self-eq0)
