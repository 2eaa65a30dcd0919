-- What the reader accepts, and when each refusal applies, in the words of the table.
use Rattle.std.specs.Prelude.{◌≡◌, true, false, List, ℕ, ◌≤◌, ◌<◌, length, get_or}
use Rattle.refusal.specs.declared.Refusal.{Refusal}
use Rattle.refusal.specs.declared.Refusal.TheVariants.{Length, HighBits, GuardWord, NotTerc4, SyncBits, HeaderParity, SubpacketParity}
use Rattle.hdmi.specs.Parity.{right}
use Rattle.hdmi.specs.Packet.{header, subpacket, RightPacket}
use Rattle.hdmi.specs.Island.{island}
use Rattle.island_reader.specs.Found.{pair_of, packet_found}
use Rattle.island_reader.specs.Read.{high_bits, guard_place, guard_wrong, lane_wrong, sync_wrong}

-- the words are the encoding of a packet with right parity
pub record Encodes (hv : ℕ) (p ws : List ℕ) : Type 0 where
  pub pair : hv < 4
  pub right_packet : RightPacket p
  pub bytes : (m : ℕ) → get_or p m 0 < 256
  pub same : ws ≡ island hv p

-- a refusal applies to the words and the lent packet
pub data Applies (ws out : List ℕ) : Refusal → Type 0 where
  lengths : (length ws ≡ 36 → length out ≡ 36 → ⊥) → Applies ws out Length
  high : (i : ℕ) → i < 36 → high_bits ws i ≡ true → Applies ws out (HighBits i)
  guard : (j : ℕ) → j < 4 → guard_wrong (pair_of (get_or ws 0 0)) ws j ≡ true → Applies ws out (GuardWord (guard_place j))
  lane : (i : ℕ) → 2 ≤ i → i < 34 → lane_wrong ws i ≡ true → Applies ws out (NotTerc4 i)
  sync : (i : ℕ) → 2 ≤ i → i < 34 → sync_wrong (pair_of (get_or ws 0 0)) ws i ≡ true → Applies ws out (SyncBits i)
  in_header : right 3 (header (packet_found ws)) ≡ false → Applies ws out HeaderParity
  in_subpacket : (s : ℕ) → s < 4 → right 7 (subpacket s (packet_found ws)) ≡ false → Applies ws out (SubpacketParity s)
