-- `line::pulse_words` meets its contract.
use mathlib.Core.Path.{◌≡◌, ap₂, ◌∙◌}
use native.Mathlib.Omega.{arith}
use borrow.Author.Rules.{rules}
use lib.ListN.{length, replicate}
use Rattle.timing.proofs.Ranges.{accepted}
use Rattle.line.proofs.Stores.{pulse_made}
use Rattle.line.proofs.pulse_words.Goals as goal

pub overflow_add-line : goal.overflow_add-line
overflow_add-line c = omega (arith, accepted c.args.t c.requires)

pub overflow_add-line-2 : goal.overflow_add-line-2
overflow_add-line-2 c = omega (arith, accepted c.args.t c.requires)

pub overflow_sub-line : goal.overflow_sub-line
overflow_sub-line c = omega (arith, accepted c.args.t c.requires)

pub overflow_add-line-3 : goal.overflow_add-line-3
overflow_add-line-3 c = omega (arith, accepted c.args.t c.requires)

pub returns : goal.returns
returns c =
    let long : length c.args.line.now ≡ 15 = search rules in
    let filled = c.fill.ensures.after (λ y e. e) ∙ ap₂ replicate long c.sync_word.ensures in
    rw (filled, c.sync_word-2.ensures) (pulse_made c.args.t c.args.v_sync)
