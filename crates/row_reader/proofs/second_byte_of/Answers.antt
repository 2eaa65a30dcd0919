-- `second_byte_of` is the decoder's chart at the second symbol of a pair.
use mathlib.Core.Path.{◌≡◌, ap, ap₂, ◌∙◌}
use Prim.Native.Nat.{ℕ, ◌*◌, ◌/◌, ◌%◌, ◌^◌}
use native.Mathlib.Nat.{mod-eq_of_lt}
use native.Mathlib.Omega.{arith}
use lib.Bits.{bit_xor, xor_shr}
use Rattle.dvi.specs.Decoder.{byte_of}
use Rattle.charts.proofs.Decoding.{product_is_byte}
use Rattle.row_reader.proofs.second_byte_of.Goals as goal

pub returns : goal.returns
returns c =
    let w = c.args.pair in
    let s : ℕ = w / 65536 in
    let doubled : (w * 2 ^ 1) % 2 ^ 32 / 65536 ≡ (s * 2 ^ 1) % 2 ^ 32 = omega (arith, c.requires.0, c.requires.1) in
    let quarter : w / 16777216 % 4 * 8 ≡ s / 256 % 4 * 8 = omega arith in
    let moved : bit_xor w ((w * 2 ^ 1) % 2 ^ 32) / 65536 ≡ bit_xor s ((s * 2 ^ 1) % 2 ^ 32) = xor_shr w ((w * 2 ^ 1) % 2 ^ 32) 16 ∙ ap (bit_xor s) doubled in
    ap₂ (λ (x y : ℕ). bit_xor x (0x01ff00fe / 2 ^ y) % 256) moved quarter ∙ product_is_byte s ∙ ap byte_of (mod-eq_of_lt c.requires.1)
