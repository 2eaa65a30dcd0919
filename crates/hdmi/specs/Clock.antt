-- HDMI 1.3a, section 5.3.3 (audio clock regeneration).
use Rattle.std.specs.Prelude.{List, [], ◌∷◌, ℕ, ◌/◌, ◌%◌, ◌^◌}
use Rattle.hdmi.specs.Packet.{packet_of}

-- CTS and N, of 20 bits each, in three bytes each, the highest first
abbrev pub clock_bytes : ℕ → ℕ → List ℕ
clock_bytes cts n =
    0 ∷ cts / 2 ^ 16 ∷ cts / 2 ^ 8 % 2 ^ 8 ∷ cts % 2 ^ 8 ∷ n / 2 ^ 16 ∷ n / 2 ^ 8 % 2 ^ 8 ∷ n % 2 ^ 8 ∷ []

-- packet type 1; the four subpackets are the same
abbrev pub clock_packet : ℕ → ℕ → List ℕ
clock_packet cts n = packet_of (1 ∷ 0 ∷ 0 ∷ []) (λ s. clock_bytes cts n)
