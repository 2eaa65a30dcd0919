-- `TmdsSymbol::control` picks the control symbol of two levels.
use Rattle.dvi.specs.Control.{control}
use Rattle.symbol.proofs.TmdsSymbol.control.Goals as goal

pub returns-then-c0 : goal.returns-then-c0
unfolding control
returns-then-c0 c = simp (c.if-c1.true, c.if-c0.true)

pub returns-else-c0 : goal.returns-else-c0
unfolding control
returns-else-c0 c = simp (c.if-c1.true, c.if-c0.false)

pub returns-then-c0-2 : goal.returns-then-c0-2
unfolding control
returns-then-c0-2 c = simp (c.if-c1.false, c.if-c0-2.true)

pub returns-else-c0-2 : goal.returns-else-c0-2
unfolding control
returns-else-c0-2 c = simp (c.if-c1.false, c.if-c0-2.false)
