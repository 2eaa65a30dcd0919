-- `parity::right_subpacket`: the parity of the seven bytes, against the byte on top.
use mathlib.Core.Path.{◌≡◌, ap, ◌∙◌}
use Prim.Native.Nat.{ℕ, ◌*◌, ◌%◌, ◌^◌}
use native.Mathlib.Omega.{arith}
use Rattle.laws.specs.Bytes.{low_first}
use Rattle.hdmi.specs.Parity.{parity}
use Rattle.parity.proofs.Sealing.{parity_moved, top_right}
use Rattle.parity.proofs.right_subpacket.Goals as goal

pub returns : goal.returns
returns c =
    let w : ℕ = c.args.w in
    let moved : w * 2 ^ 8 % 2 ^ 64 ≡ 256 ^ 1 * (w % 256 ^ 7) = omega arith in
    top_right 7 w c.word_parity.result (omega arith) (c.word_parity.ensures ∙ ap (λ (m : ℕ). parity (low_first 8 m)) moved ∙ parity_moved 1 7 w)
