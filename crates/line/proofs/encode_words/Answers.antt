-- `line::encode_words` meets its contract. The island's writer is handed 36 words, a packet and a pair below 4, so the branch of its refusal is never taken.
use mathlib.Core.Path.{sym, ap, ◌∙◌}
use borrow.Author.Rules.{rules}
use Rattle.hdmi.specs.Island.{island}
use Rattle.refusal.proofs.Upward.{writes}
use Rattle.timing.specs.LineState.{state_number}
use Rattle.line.proofs.Stores.{encode_made}
use Rattle.line.proofs.encode_words.Goals as goal

pub returns : goal.returns
returns c =
    let told = c.in-Ok.is in
    let put = c.encode-v.ensures in
    let pair = rw c.v_sync.ensures at c.island_pair.ensures.0 in
    let isle = put.written ∙ sym (writes put.answer _ _ told) ∙ ap (λ n. island n c.args.packet.now) pair in (
      told,
      c.frame_words.ensures ∙ rw isle
          (encode_made c.args.t (state_number c.args.state) c.args.packet.now c.args.line.now (search rules)),
    )
