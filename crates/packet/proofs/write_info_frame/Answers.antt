-- `packet::write_info_frame`: the block with the checksum, and three of zeros.
use mathlib.Core.Path.{ap, ◌∙◌}
use mathlib.Core.List.{List}
use Prim.Native.Nat.{ℕ}
use native.Mathlib.Omega.{arith}
use Rattle.laws.specs.Bytes.{low_first}
use Rattle.refusal.specs.Verdict.{verdict, kept}
use Rattle.blocks.specs.Asks.{packet_asks}
use Rattle.packet.proofs.Infos.{info_joined}
use Rattle.packet.proofs.write_info_frame.Goals as goal

pub returns : goal.returns
returns c =
    let p = c.args.packet.now in
    let joined = c.join_words.ensures in
    let frame = info_joined c.args.header c.args.bytes (low_first 8 c.subpacket_word-block.result) (omega arith) (omega arith) c.requires c.subpacket_word-block.ensures in
    (joined.0, joined.1 ∙ ap (λ (w : List ℕ). kept (verdict (packet_asks p)) w p) frame)
