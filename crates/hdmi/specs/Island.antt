-- HDMI 1.3a, sections 5.2.3.3 to 5.2.3.5 (data islands): the 36 words of an island with one packet, from its sync pair and the packet's 36 bytes.
-- The sync pair hv is HSYNC's level, plus 2 times VSYNC's.
use Rattle.std.specs.Prelude.{cond, ◌&&◌, List, ℕ, zero, suc, ◌+◌, ◌-◌, ◌*◌, ◌/◌, ◌%◌, leb, ltb, get_or}
use Rattle.laws.specs.Bit.{bit}
use Rattle.laws.specs.Digits.{numeral}
use Rattle.laws.proofs.Tables.{made}
use Rattle.dvi.specs.Lanes.{lanes}
use Rattle.hdmi.specs.Terc4.{terc4}

-- the guard band, leading and trailing: lane 0 goes on with the sync pair, under two ones
unfoldable pub guard_word : ℕ → ℕ
guard_word hv = lanes (terc4 (12 + hv)) 0x133 0x133

-- bit k of the header, and bit n of subpacket s: byte 0 first, each byte from its lowest bit
unfoldable pub header_bit : List ℕ → ℕ → ℕ
header_bit p k = bit (k % 8) (get_or p (k / 8) 0)

unfoldable pub subpacket_bit : List ℕ → ℕ → ℕ → ℕ
subpacket_bit p s n = bit (n % 8) (get_or p (4 + 8 * s + n / 8) 0)

-- bit 3 of lane 0: 0 at the island's first character and 1 at the others
abbrev pub marker : ℕ → ℕ
marker zero = 0
marker (suc k) = 8

-- the four bits of lane 0 at character k: HSYNC, VSYNC, the header's bit, the marker
abbrev pub lane_zero : ℕ → List ℕ → ℕ → ℕ
lane_zero hv p k = hv + 4 * header_bit p k + marker k

-- the four bits of the lane that sends bit n of the subpackets: bit s is subpacket s's
abbrev pub across : List ℕ → ℕ → ℕ
across p n = numeral 1 (λ s. subpacket_bit p s n) 0 4

-- character k of the packet, of 32: the subpackets' even bits go on lane 1 and their odd bits on lane 2
unfoldable pub data_word : ℕ → List ℕ → ℕ → ℕ
data_word hv p k = lanes (terc4 (lane_zero hv p k)) (terc4 (across p (2 * k))) (terc4 (across p (2 * k + 1)))

-- word i of the island: the packet's 32 characters between two guard bands of two
unfoldable pub island_word : ℕ → List ℕ → ℕ → ℕ
island_word hv p i = cond (leb 2 i && ltb i 34) (data_word hv p (i - 2)) (guard_word hv)

unfoldable pub island : ℕ → List ℕ → List ℕ
island hv p = made (island_word hv p) 0 36
