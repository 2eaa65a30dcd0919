-- The decoder's chart in the machine's arithmetic, and the test for what the encoder sends, each computed at all 1,024 numbers of ten bits.
use mathlib.Core.Path.{◌≡◌, sym, ap, ap₂, ◌∙◌}
use mathlib.Core.Bool.{Bool, not, ◌&&◌, ◌||◌}
use Prim.Native.Nat.{ℕ, ◌*◌, ◌/◌, ◌%◌, ◌<◌, ◌^◌}
use native.Mathlib.Omega.{arith}
use lib.Bits.{bit_xor, xor_mod}
use lib.Count.{ones, ones_in}
use lib.Dec.{eqb}
use Rattle.laws.proofs.Finite.{agreed, agreed_tests}
use Rattle.dvi.specs.Encoder.{qm_of}
use Rattle.dvi.specs.Symbol.{symbol_of}
use Rattle.dvi.specs.Decoder.{byte_of, is_data}

-- the byte: each bit with the one below it, and of those that the encoder flipped, a byte of the constant by bits 8 and 9
abbrev pub product : ℕ → ℕ
product s = bit_xor (bit_xor s (s * 2 ^ 1 % 2 ^ 32)) (0x01ff00fe / 2 ^ (s / 256 % 4 * 8)) % 256

of_ten_bits : (s : ℕ) → s < 1024 → product s ≡ byte_of s
unfolding byte_of
of_ten_bits s l = agreed product byte_of 1024 tt s l

-- what stands above the ten bits is never looked at
by_bytes : (s : ℕ) → product s ≡ bit_xor (bit_xor (s % 256) (s * 2 ^ 1 % 2 ^ 32 % 256)) (0x01ff00fe / 2 ^ (s / 256 % 4 * 8) % 256)
by_bytes s =
    let t : ℕ = s * 2 ^ 1 % 2 ^ 32 in
    let flipped : ℕ = 0x01ff00fe / 2 ^ (s / 256 % 4 * 8) in
    xor_mod (bit_xor s t) flipped 8 ∙ ap (λ (x : ℕ). bit_xor x (flipped % 256)) (xor_mod s t 8)

high_bits : (s : ℕ) → s / 256 % 4 ≡ s % 1024 / 256
high_bits s = omega arith

ten_bits : (s : ℕ) → product s ≡ product (s % 1024)
ten_bits s =
    let r : ℕ = s % 1024 in
    let same : s % 256 ≡ r % 256 = omega arith in
    let doubled : s * 2 ^ 1 % 2 ^ 32 % 256 ≡ r * 2 ^ 1 % 2 ^ 32 % 256 = omega arith in
    let by : s / 256 % 4 * 8 ≡ r / 256 % 4 * 8 = omega (arith, high_bits s) in
    by_bytes s
    ∙ ap₂ (λ (x k : ℕ). bit_xor x (0x01ff00fe / 2 ^ k % 256)) (ap₂ bit_xor same doubled) by
    ∙ sym (by_bytes r)

pub product_is_byte : (s : ℕ) → product s ≡ byte_of (s % 1024)
product_is_byte s = ten_bits s ∙ of_ten_bits (s % 1024) (omega arith)

-- the low eight bits as they stood before they were complemented
abbrev pub low : ℕ → ℕ
low s = bit_xor (s % 256) ((s / 512) * 255)

-- the intermediate is the byte's own, and with four ones in it bit 9 differs from bit 8
abbrev pub shape : ℕ → Bool
shape s =
    eqb (qm_of (byte_of s)) (bit_xor (low s) (((s / 256) % 2) * 256))
    && (not (eqb (ones (low s)) 4) || not (eqb (s / 512) ((s / 256) % 2)))

pub shape_is_data : (s : ℕ) → s < 1024 → shape s ≡ is_data s
unfolding ones ones_in qm_of symbol_of byte_of is_data
shape_is_data s l = agreed_tests shape is_data 1024 tt s l
