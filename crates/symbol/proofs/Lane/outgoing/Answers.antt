-- `Lane::outgoing` meets its contract.
use mathlib.Core.Path.{◌≡◌, sym, ◌∙◌}
use lib.IntN.{pos, ◌*ℤ◌}
use Rattle.dvi.specs.Encoder.{complemented}
use Rattle.symbol.proofs.Lane.outgoing.Goals as goal
use Rattle.symbol.proofs.Lane.outgoing.Goals.{After-inverts}

-- the answer of `inverts`, at the discrepancy as it was before it became 32 bits
chart : (c : After-inverts) → complemented (pos 2 *ℤ c.args.self.discrepancy) c.args.word ≡ c.inverts.result
chart c = sym c.inverts.ensures

pub returns-then-inverts : goal.returns-then-inverts
returns-then-inverts c = simp (chart (goal.at.returns-then-inverts c).After-inverts ∙ c.if-inverts.true)

pub returns-else-inverts : goal.returns-else-inverts
returns-else-inverts c = simp (chart (goal.at.returns-else-inverts c).After-inverts ∙ c.if-inverts.false)
