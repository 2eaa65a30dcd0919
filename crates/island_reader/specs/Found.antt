-- What stands in an island's words: the sync pair of word 0, the numbers on the lanes, and the packet's bytes.
use Rattle.std.specs.Prelude.{Bool, cond, ◌||◌, List, ℕ, ◌+◌, ◌-◌, ◌*◌, ◌/◌, ◌%◌, eqb, ltb, get_or}
use Rattle.laws.specs.Bit.{bit}
use Rattle.laws.specs.Digits.{numeral}
use Rattle.laws.specs.Search.{first}
use Rattle.laws.proofs.Tables.{made}
use Rattle.dvi.specs.Lanes.{lane}
use Rattle.hdmi.specs.Terc4.{terc4_number}
use Rattle.hdmi.specs.Island.{guard_word}

-- the sync pair whose guard word w is, and 4 where it is none of the four
unfoldable pub pair_of : ℕ → ℕ
pair_of w = first (λ hv. eqb w (guard_word hv)) 0 4

-- the number on lane t of a word, and 16 where the lane isn't TERC4
abbrev pub number_on : ℕ → ℕ → ℕ
number_on t w = terc4_number (lane t w)

-- a lane of the word isn't TERC4
abbrev pub unread : ℕ → Bool
unread w = eqb (number_on 0 w) 16 || (eqb (number_on 1 w) 16 || eqb (number_on 2 w) 16)

-- bit k of the header, and bit n of subpacket s
unfoldable pub header_found : List ℕ → ℕ → ℕ
header_found ws k = bit 2 (number_on 0 (get_or ws (2 + k) 0))

unfoldable pub subpacket_found : List ℕ → ℕ → ℕ → ℕ
subpacket_found ws s n = bit s (number_on (1 + n % 2) (get_or ws (2 + n / 2) 0))

-- byte i of the header, and byte i of subpacket s
unfoldable pub header_byte : List ℕ → ℕ → ℕ
header_byte ws i = numeral 1 (λ n. header_found ws (8 * i + n)) 0 8

unfoldable pub subpacket_byte : List ℕ → ℕ → ℕ → ℕ
subpacket_byte ws s i = numeral 1 (λ n. subpacket_found ws s (8 * i + n)) 0 8

-- the packet's 36 bytes
abbrev pub byte_found : List ℕ → ℕ → ℕ
byte_found ws m = cond (ltb m 4) (header_byte ws m) (subpacket_byte ws ((m - 4) / 8) ((m - 4) % 8))

unfoldable pub packet_found : List ℕ → List ℕ
packet_found ws = made (byte_found ws) 0 36
