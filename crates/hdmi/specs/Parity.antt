-- HDMI 1.3a, section 5.2.3.5 (error correction): the parity byte of a block, of any number of data bytes. BCH(32,24) is the header's, with three of
-- them, and BCH(64,56) the subpackets', with seven.
use Rattle.std.specs.Prelude.{Bool, List, [], ◌∷◌, ◌++◌, ℕ, zero, suc, ◌*◌, ◌/◌, ◌%◌, eqb, get_or, take}
use Rattle.std.specs.Int.Bits.{bit_xor}

-- The register takes in the bit b: it is shifted right, and where the bit shifted out and b differ the generator x^8 + x^7 + x^6 + 1 is added.
-- The coefficient of x^j stands in bit 7 - j, and x^8 is the bit shifted out: 0x83.
abbrev pub step : ℕ → ℕ → ℕ
step v b = bit_xor (v / 2) (bit_xor (v % 2) b * 0x83)

-- the register v after a list of bits
abbrev pub register : ℕ → List ℕ → ℕ
register v [] = v
register v (b ∷ bs) = register (step v b) bs

-- the n low bits of x, the lowest first
abbrev pub bits_of : ℕ → ℕ → List ℕ
bits_of zero x = []
bits_of (suc n) x = x % 2 ∷ bits_of n (x / 2)

-- the bits of a list of bytes, in the order in which they are sent
unfoldable pub sent : List ℕ → List ℕ
sent [] = []
sent (x ∷ xs) = bits_of 8 x ++ sent xs

-- the parity byte of data bytes: the register, from 0, after all of their bits
unfoldable pub parity : List ℕ → ℕ
parity xs = register 0 (sent xs)

-- data bytes with their parity byte behind them
unfoldable pub with_parity : List ℕ → List ℕ
with_parity xs = xs ++ (parity xs ∷ [])

-- a block of m data bytes has the right parity byte behind them
abbrev pub right : ℕ → List ℕ → Bool
right m block = eqb (parity (take m block)) (get_or block m 0)
