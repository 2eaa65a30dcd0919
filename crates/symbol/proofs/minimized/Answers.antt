-- `minimized` gives DVI 1.0's q_m, by its chain of shifts and its choice.
use mathlib.Core.Path.{◌≡◌, sym, ◌∙◌}
use mathlib.Core.Bool.{true, false}
use borrow.Author.Tests.{lt-ltb, le-ltb, eq-eqb, ne_eqb}
use Rattle.charts.proofs.Encoding.{xnor, chain_is_qm}
use Rattle.symbol.proofs.minimized.Goals as goal
use Rattle.symbol.proofs.minimized.Goals.{Joined-byte_ones-gt4, then-byte_ones-gt4, else-byte_ones-gt4+then-byte_ones-eq4, else-byte_ones-gt4+else-byte_ones-eq4}

choice : (c : Joined-byte_ones-gt4) → c.if-byte_ones-gt4.value ≡ xnor c.args.byte
choice c =
    elim c.if-byte_ones-gt4.branch [
      | then-byte_ones-gt4 w ↦ w.value-is ∙ simp (lt-ltb 4 _ w.if-byte_ones-gt4.true)
      | else-byte_ones-gt4+then-byte_ones-eq4 w ↦ w.value-is ∙ simp (le-ltb 4 _ w.if-byte_ones-gt4.false, eq-eqb _ 4 w.if-byte_ones-eq4.true)
      | else-byte_ones-gt4+else-byte_ones-eq4 w ↦ w.value-is ∙ simp (le-ltb 4 _ w.if-byte_ones-gt4.false, ne_eqb _ 4 w.if-byte_ones-eq4.false)
    ]

pub returns-then-low-eq0 : goal.returns-then-low-eq0
returns-then-low-eq0 c =
    let e : xnor c.args.byte ≡ true = sym (choice (goal.at.returns-then-low-eq0 c).Joined-byte_ones-gt4) ∙ c.if-low-eq0.true in
    rw e at (chain_is_qm c.args.byte c.ranges.byte.fits)

pub returns-else-low-eq0 : goal.returns-else-low-eq0
returns-else-low-eq0 c =
    let e : xnor c.args.byte ≡ false = sym (choice (goal.at.returns-else-low-eq0 c).Joined-byte_ones-gt4) ∙ c.if-low-eq0.false in
    rw e at (chain_is_qm c.args.byte c.ranges.byte.fits)
