-- Each length at its edge, as the answer says it: one byte short, right, one byte long, a word more; then the packet and the line state.
use mathlib.Core.Path.{◌≡◌, refl}
use Prim.Native.Nat.{ℕ}
use lib.ListN.{replicate}
use Rattle.refusal.specs.Verdict.{verdict}
use Rattle.timing.specs.Timing.{ranges, vga}
use Rattle.crossing.specs.Crossing.{told}
use Rattle.c_line.specs.Asks.{line_bytes_asks, island_bytes_asks}

-- the refusal of a line of n words in so many bytes, on VGA
abbrev line : ℕ → ℕ → ℕ
line n bytes = (told (verdict (line_bytes_asks n vga (replicate bytes 0)))).refusal

pub pulse_of_60 : (line 15 59 ≡ 1) × (line 15 60 ≡ 0) × (line 15 61 ≡ 1) × (line 15 64 ≡ 1)
unfolding ranges
pulse_of_60 = (refl, refl, refl, refl)

pub only_of_44 : (line 11 43 ≡ 1) × (line 11 44 ≡ 0) × (line 11 45 ≡ 1) × (line 11 48 ≡ 1)
unfolding ranges
only_of_44 = (refl, refl, refl, refl)

pub init_of_224 : (line 56 223 ≡ 1) × (line 56 224 ≡ 0) × (line 56 225 ≡ 1) × (line 56 228 ≡ 1)
unfolding ranges
init_of_224 = (refl, refl, refl, refl)

-- with a packet of so many bytes and a line state
abbrev encoded : ℕ → ℕ → ℕ → ℕ
encoded bytes packet state = (told (verdict (island_bytes_asks vga (replicate bytes 0) packet state))).refusal

pub island_of_224 : (encoded 223 36 3 ≡ 1) × (encoded 224 36 3 ≡ 0) × (encoded 225 36 3 ≡ 1) × (encoded 228 36 3 ≡ 1)
unfolding ranges
island_of_224 = (refl, refl, refl, refl)

pub packet_of_36 : (encoded 224 35 3 ≡ 1) × (encoded 224 37 3 ≡ 1)
packet_of_36 = (refl, refl)

-- states 0 to 3; a wrong length is said first
pub state_4 : (encoded 224 36 0 ≡ 0) × (encoded 224 36 4 ≡ 4) × (encoded 223 36 4 ≡ 1) × (encoded 224 35 4 ≡ 1)
unfolding ranges
state_4 = (refl, refl, refl, refl)
