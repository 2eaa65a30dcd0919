-- `parity::subpacket_word`: the word of the seven bytes and, on top, what the division makes of them with a zero in front.
use mathlib.Core.Path.{◌≡◌, ap, ap₂, ◌∙◌}
use mathlib.Core.List.{List, [], ◌∷◌, ◌++◌}
use Prim.Native.Nat.{ℕ, ◌+◌, ◌*◌, ◌%◌, ◌^◌, ◌<◌}
use native.Mathlib.Omega.{arith}
use borrow.Author.Rules.{rules}
use lib.Bits.{bit_or, or_shifted_r}
use Rattle.laws.specs.Bytes.{low_first, from_low, Bytes}
use Rattle.laws.proofs.Bytes.{read_written}
use Rattle.laws.proofs.Spines.{spine, spine_is}
use Rattle.hdmi.specs.Parity.{parity, with_parity}
use Rattle.parity.proofs.Sealing.{parity_moved, byte_above}
use Rattle.parity.proofs.subpacket_word.Goals as goal

pub returns : goal.returns
unfolding with_parity
returns c =
    let xs : List ℕ = spine 7 c.args.bytes in
    let w : ℕ = c.from_le_bytes-word.result in
    let p : ℕ = c.from.result in
    let b : Bytes xs = search rules in
    let whole : w ≡ from_low xs = omega arith in
    let small : w < 2 ^ 56 = omega arith in
    let bytes : low_first 7 w ≡ xs = ap (low_first 7) whole ∙ read_written xs b in
    let moved : w * 2 ^ 8 % 2 ^ 64 ≡ 256 ^ 1 * (w % 256 ^ 7) = omega arith in
    let top : p ≡ parity xs =
    c.from.ensures ∙ c.word_parity.ensures ∙ ap (λ (m : ℕ). parity (low_first 8 m)) moved ∙ parity_moved 1 7 w ∙ ap parity bytes in
    let high : p * 2 ^ 56 % 2 ^ 64 ≡ p * 2 ^ 56 = omega arith in
    let joined : bit_or w (p * 2 ^ 56 % 2 ^ 64) ≡ w + 256 ^ 7 * p = ap (bit_or w) high ∙ or_shifted_r p 56 w small ∙ omega arith in
    ap (low_first 8) joined
    ∙ byte_above 7 w p small (omega arith)
    ∙ ap₂ (λ (l : List ℕ) (v : ℕ). l ++ (v ∷ [])) bytes top
    ∙ ap with_parity (spine_is 7 c.args.bytes (omega arith))
