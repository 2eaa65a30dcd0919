-- What the private functions say of a word of data before it is known to be the island's.
use Rattle.std.specs.Prelude.{◌≡◌, List, ℕ, ◌+◌, ◌*◌, ◌/◌, ◌%◌, ◌^◌, ◌<◌, get_or}
use Rattle.std.specs.Int.Bits.{bit_and, bit_or}
use Rattle.laws.specs.Bit.{bit}
use Rattle.dvi.specs.Lanes.{lanes}
use Rattle.hdmi.specs.Terc4.{terc4}
use Rattle.hdmi.specs.Island.{header_bit, subpacket_bit, marker}
use Rattle.island.specs.Pairs.{evens, odds}

-- bit k of a transposed word of four bytes: pair j of byte s becomes pair s of byte j
abbrev pub transposed : ℕ → ℕ
transposed k = 8 * (k / 2 % 4) + 2 * (k / 8) + k % 2

-- v is subpacket s of the packet p
unfoldable pub Subpacket : List ℕ → ℕ → ℕ → Type 0
Subpacket p s v = (n : ℕ) → n < 64 → bit n v ≡ subpacket_bit p s n

-- byte r of v has the bit pairs of character 4 (i + r) + j, that of subpacket s as its pair s
unfoldable pub Pairs : List ℕ → ℕ → ℕ → ℕ → Type 0
Pairs p i j v = (r s o : ℕ) → i + r < 8 → s < 4 → o < 2 → bit (8 * r + (2 * s + o)) v ≡ subpacket_bit p s (2 * (4 * (i + r) + j) + o)

-- the same for the four characters from 4 i on, each in its own word
unfoldable pub Rows : List ℕ → ℕ → List ℕ → Type 0
Rows p i rows = (j : ℕ) → j < 4 → Pairs p i j (get_or rows j 0)

-- h is the header's bits from 4 i on
unfoldable pub Header : List ℕ → ℕ → ℕ → Type 0
Header p i h = (k : ℕ) → 4 * i + k < 32 → bit k h ≡ header_bit p (4 * i + k)

-- x under the mask `low`, and y, moved up by k, under the mask `high`
unfoldable pub merged : ℕ → ℕ → ℕ → ℕ → ℕ → ℕ
merged x y k low high = bit_or (bit_and x low) (bit_and (y * 2 ^ k % 2 ^ 64) high)

-- character 4 i + j, from the header's bits behind the first 4 i and a byte of pairs at the low end of v
unfoldable pub word_from : ℕ → ℕ → ℕ → ℕ → ℕ → ℕ
word_from hv h v i j = lanes (terc4 (hv + 4 * bit j h + marker (4 * i + j))) (terc4 (evens (v % 256))) (terc4 (odds (v % 256)))
