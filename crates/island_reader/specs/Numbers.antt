-- The numbers of a word's three lanes in one number, four bits each, as the private functions hand them on.
use Rattle.std.specs.Prelude.{◌≡◌, Bool, not, cond, List, ℕ, ◌+◌, ◌-◌, ◌*◌, ◌/◌, ◌%◌, ◌<◌, eqb, ltb, length, get_or}
use Rattle.laws.specs.Bit.{bit}
use Rattle.laws.specs.Digits.{numeral}
use Rattle.laws.proofs.Tables.{made}
use Rattle.hdmi.specs.Island.{marker}
use Rattle.island_reader.specs.Found.{number_on}

abbrev pub numbers_of : ℕ → ℕ
numbers_of w = number_on 0 w + 16 * number_on 1 w + 256 * number_on 2 w

-- those of words 2 to 33
unfoldable pub numbers_in : List ℕ → List ℕ
numbers_in ws = made (λ k. numbers_of (get_or ws (2 + k) 0)) 0 32

-- bit k of the header, and bit n of subpacket s: lane 0's number stands in bits 0..3, lane 1's in 4..7 and lane 2's in 8..11
unfoldable pub header_in : List ℕ → ℕ → ℕ
header_in ns k = bit 2 (get_or ns k 0)

unfoldable pub subpacket_in : List ℕ → ℕ → ℕ → ℕ
subpacket_in ns s n = bit (4 + 4 * (n % 2) + s) (get_or ns (n / 2) 0)

-- byte i of the header, byte i of subpacket s, and byte i of the four subpackets in one word
unfoldable pub header_byte_in : List ℕ → ℕ → ℕ
header_byte_in ns i = numeral 1 (λ n. header_in ns (8 * i + n)) 0 8

unfoldable pub subpacket_byte_in : List ℕ → ℕ → ℕ → ℕ
subpacket_byte_in ns s i = numeral 1 (λ n. subpacket_in ns s (8 * i + n)) 0 8

unfoldable pub group_in : List ℕ → ℕ → ℕ
group_in ns i = numeral 8 (λ s. subpacket_byte_in ns s i) 0 4

-- the packet's 36 bytes; and a packet with its header and the first i bytes of each subpacket
unfoldable pub packet_in : List ℕ → List ℕ
packet_in ns = made (λ m. cond (ltb m 4) (header_byte_in ns m) (subpacket_byte_in ns ((m - 4) / 8) ((m - 4) % 8))) 0 36

pub record Unpacked (ns : List ℕ) (i : ℕ) (p : List ℕ) : Type 0 where
  pub long : length p ≡ 36
  pub head : (m : ℕ) → m < 4 → get_or p m 0 ≡ header_byte_in ns m
  pub rows : (s j : ℕ) → s < 4 → j < i → get_or p (4 + 8 * s + j) 0 ≡ subpacket_byte_in ns s j

-- where a shuffle of each byte's nibbles takes bit k from: the low nibble goes to the even bits, the high one to the odd
abbrev pub shuffled : ℕ → ℕ
shuffled k = 8 * (k / 8) + 4 * (k % 2) + k % 8 / 2

-- lane 0's sync pair and marker aren't those of hv at word i
abbrev pub sync_unlike : ℕ → List ℕ → ℕ → Bool
sync_unlike hv ns i = not (eqb (get_or ns (i - 2) 0 % 4 + get_or ns (i - 2) 0 % 16 / 8 * 8) (hv + marker (i - 2)))
