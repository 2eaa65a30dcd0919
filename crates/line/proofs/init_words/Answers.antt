-- `line::init_words` meets its contract.
use native.Mathlib.Omega.{arith}
use borrow.Author.Rules.{rules}
use Rattle.timing.proofs.Ranges.{accepted}
use Rattle.line.proofs.Stores.{init_made}
use Rattle.line.proofs.init_words.Goals as goal

pub overflow_sub-line : goal.overflow_sub-line
overflow_sub-line c = omega (arith, accepted c.args.t c.requires)

pub overflow_add-line : goal.overflow_add-line
overflow_add-line c = omega (arith, accepted c.args.t c.requires)

pub overflow_sub-line-2 : goal.overflow_sub-line-2
overflow_sub-line-2 c = omega (arith, accepted c.args.t c.requires)

pub overflow_add-line-3 : goal.overflow_add-line-3
overflow_add-line-3 c = omega (arith, accepted c.args.t c.requires)

pub overflow_sub-line-3 : goal.overflow_sub-line-3
overflow_sub-line-3 c = omega (arith, accepted c.args.t c.requires)

pub overflow_add-line-4 : goal.overflow_add-line-4
overflow_add-line-4 c = omega (arith, accepted c.args.t c.requires)

pub returns : goal.returns
returns c = init_made c.args.t c.args.line.now (search rules)
