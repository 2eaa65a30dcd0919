-- `line::only_words` meets its contract.
use mathlib.Core.Path.{◌≡◌, ap₂, ◌∙◌}
use native.Mathlib.Omega.{arith}
use borrow.Author.Rules.{rules}
use lib.ListN.{length, replicate}
use Rattle.timing.proofs.Ranges.{accepted}
use Rattle.line.proofs.Stores.{only_made}
use Rattle.line.proofs.only_words.Goals as goal

pub overflow_sub-line : goal.overflow_sub-line
overflow_sub-line c = omega (arith, accepted c.args.t c.requires)

pub overflow_add-line : goal.overflow_add-line
overflow_add-line c = omega (arith, accepted c.args.t c.requires)

pub returns : goal.returns
returns c =
    let long : length c.args.line.now ≡ 11 = search rules in
    let filled = c.fill.ensures.after (λ y e. e) ∙ ap₂ replicate long c.sync_word.ensures in
    rw filled (only_made c.args.t c.args.v_sync)
