-- The words of the audio packet: a header and subpackets with their parity bytes, and the rules of the tables that hold them.
use Rattle.std.specs.Prelude.{◌≡◌, List, [], ◌∷◌, ℕ, ◌+◌, ◌-◌, ◌*◌, ◌/◌, ◌%◌, ◌^◌, ◌<◌, ℤ, get_or}
use Rattle.laws.specs.Bytes.{low_first}
use Rattle.hdmi.specs.Parity.{register, bits_of, with_parity}
use Rattle.hdmi.specs.Audio.{status, frame_bytes, block_start}

-- n bits of data with their parity byte above them
abbrev pub sealed_bits : ℕ → ℕ → ℕ
sealed_bits n d = d + 2 ^ n * register 0 (bits_of n d)

-- ---- subpackets

-- the seven bytes of a frame with these bits
abbrev pub frame_of : (l r : ℕ) → List ℕ
frame_of l r = 0 ∷ l % 2 ^ 8 ∷ l / 2 ^ 8 ∷ 0 ∷ r % 2 ^ 8 ∷ r / 2 ^ 8 ∷ (status l + 16 * status r) ∷ []

-- the first n words are the first n subpackets
abbrev pub Framed : List ℤ → ℕ → List ℕ → Type 0
Framed samples n words = (s : ℕ) → s < n → low_first 8 (get_or words s 0) ≡ with_parity (frame_bytes samples s)

-- whether a digit has an odd number of ones
abbrev pub odd_digit : ℕ → ℕ
odd_digit x = (x % 2 + x / 2 % 2 + x / 4 % 2 + x / 8 % 2) % 2

-- what the digit x adds, where its lowest bit stands in bit `at`, and the sample's P in bit p
abbrev pub digit_rule : (at p : ℕ) → ℕ → ℕ
digit_rule at p x = sealed_bits 56 (x * 2 ^ at + odd_digit x * 2 ^ p)

-- the same by the digit's place in a frame: 0..3 are the left sample's, the lowest first, and 4..7 the right one's
abbrev pub place_rule : (place : ℕ) → ℕ → ℕ
place_rule place x = digit_rule (8 + 4 * place + 8 * (place / 4)) (51 + 4 * (place / 4)) x

-- ---- headers

abbrev pub header_rule : ℕ → ℕ
header_rule x = sealed_bits 24 (2 + 2 ^ 8 * (2 ^ (x / 5) - 1) + 2 ^ 16 * block_start 0 (x % 5))
