-- One factor of the division that takes a word's parity.
use Rattle.std.specs.Prelude.{ℕ, ◌*◌, ◌%◌, ◌^◌}
use Rattle.std.specs.Int.Bits.{bit_xor}

-- shifted left in 64 bits
abbrev pub shl : ℕ → ℕ → ℕ
shl k w = w * 2 ^ k % 2 ^ 64

-- w times 1 + x^i + x^j + x^k
abbrev pub spread_by : ℕ → ℕ → ℕ → ℕ → ℕ
spread_by i j k w = bit_xor (bit_xor (bit_xor w (shl i w)) (shl j w)) (shl k w)
