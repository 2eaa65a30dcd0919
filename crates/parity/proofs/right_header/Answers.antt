-- `parity::right_header`: the parity of the three bytes, with five zeros in front for the division, against the byte on top.
use mathlib.Core.Path.{◌≡◌, ap, ◌∙◌}
use Prim.Native.Nat.{ℕ, ◌*◌, ◌%◌, ◌^◌}
use native.Mathlib.Omega.{arith}
use Rattle.laws.specs.Bytes.{low_first}
use Rattle.hdmi.specs.Parity.{parity}
use Rattle.parity.proofs.Sealing.{parity_moved, top_right}
use Rattle.parity.proofs.right_header.Goals as goal

pub returns : goal.returns
returns c =
    let h : ℕ = c.args.h in
    let moved : c.from.result * 2 ^ 40 % 2 ^ 64 ≡ 256 ^ 5 * (h % 256 ^ 3) = omega arith in
    top_right 3 h c.word_parity.result (omega arith) (c.word_parity.ensures ∙ ap (λ (m : ℕ). parity (low_first 8 m)) moved ∙ parity_moved 5 3 h)
