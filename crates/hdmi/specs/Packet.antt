-- HDMI 1.3a, section 5.2.3.4 (packets): 36 bytes, a header of four and four subpackets of eight, the last byte of each being its parity.
use Rattle.std.specs.Prelude.{◌≡◌, Bool, ◌&&◌, List, ◌++◌, ℕ, ◌+◌, ◌*◌, ◌<◌, T, eqb, length, take, drop}
use Rattle.laws.proofs.Finite.{all}
use Rattle.hdmi.specs.Parity.{with_parity, right}

abbrev pub header : List ℕ → List ℕ
header p = take 4 p

-- subpacket s, of 0..3
abbrev pub subpacket : ℕ → List ℕ → List ℕ
subpacket s p = take 8 (drop (4 + 8 * s) p)

-- the packet of a header's three data bytes and of each subpacket's seven
unfoldable pub packet_of : List ℕ → (ℕ → List ℕ) → List ℕ
packet_of h f = with_parity h ++ (with_parity (f 0) ++ (with_parity (f 1) ++ (with_parity (f 2) ++ with_parity (f 3))))

-- the data bytes of p with the right parity byte behind each block
abbrev pub sealed : List ℕ → List ℕ
sealed p = packet_of (take 3 (header p)) (λ s. take 7 (subpacket s p))

-- a packet whose five parity bytes are right
pub record RightPacket (p : List ℕ) : Type 0 where
  pub size : length p ≡ 36
  pub right_header : T (right 3 (header p))
  pub right_subpacket : (s : ℕ) → s < 4 → T (right 7 (subpacket s p))

-- the same as a test
abbrev pub right_packet : List ℕ → Bool
right_packet p = eqb (length p) 36 && (right 3 (header p) && all (λ s. right 7 (subpacket s p)) 4)
