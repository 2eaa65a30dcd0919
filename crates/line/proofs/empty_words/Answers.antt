-- `line::empty_words` meets its contract.
use mathlib.Core.Path.{ap, ◌∙◌}
use borrow.Author.Rules.{rules}
use lib.ListN.{replicate}
use Rattle.hdmi.specs.Island.{island}
use Rattle.timing.specs.LineState.{state_number}
use Rattle.line.proofs.Stores.{encode_made}
use Rattle.line.proofs.empty_words.Goals as goal

pub returns : goal.returns
returns c =
    let pair = rw c.v_sync.ensures at c.island_pair.ensures.0 in
    let isle = c.empty_island.ensures ∙ ap (λ n. island n (replicate 36 0)) pair in
    c.frame_words.ensures ∙ rw isle (encode_made c.args.t (state_number c.args.state) (replicate 36 0) c.args.line.now (search rules))
