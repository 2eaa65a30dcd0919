-- The same symbol in fewer words than the chart's, on numbers: t, the ones among bits 1..7 of the byte, picks XOR or XNOR; e, the ones of the
-- intermediate's low eight bits, and the discrepancy pick the inversion.
use Rattle.std.specs.Prelude.{Bool, true, false, not, cond, ◌||◌, List, map, ℕ, ◌+◌, ◌*◌, ◌/◌, leb, ltb, eqb, ℤ, pos, ◌+ℤ◌, ◌-ℤ◌}
use Rattle.std.specs.Bool.{beq}
use Rattle.std.specs.Int.Signed.{lt_z}
use Rattle.dvi.specs.Encoder.{bits_of, value_of, N1, XOR, XNOR, minimized, is_zero}

-- the ones of a number of k bits
abbrev pub ones_of : ℕ → ℕ → ℕ
ones_of k n = N1 (bits_of k n)

-- XOR when at most three of the bits 1..7 are set
abbrev pub takes_xor : ℕ → Bool
takes_xor byte = leb (ones_of 7 (byte / 2)) 3

abbrev pub flag : Bool → ℕ
flag true = 1
flag false = 0

abbrev pub low_bits : ℕ → List Bool
low_bits byte = cond (takes_xor byte) (minimized XOR (bits_of 8 byte)) (minimized XNOR (bits_of 8 byte))

-- whether the low eight bits are inverted: with d at 0 or four ones, exactly when bit 8 is 0; else when d and the ones lie on the same side
abbrev pub inverts : ℤ → ℕ → Bool
inverts d byte =
    cond (is_zero d || eqb (N1 (low_bits byte)) 4)
    (not (takes_xor byte))
    (beq (lt_z (pos 0) d) (ltb 4 (N1 (low_bits byte))))

-- bit 8 is 1 for XOR, bit 9 is 1 for inverted
unfoldable pub plain_symbol : ℤ → ℕ → ℕ
plain_symbol d byte =
    cond (inverts d byte) (value_of (map not (low_bits byte)) + 512) (value_of (low_bits byte)) + 256 * flag (takes_xor byte)

-- d plus the symbol's ones minus five
unfoldable pub plain_next : ℤ → ℕ → ℤ
plain_next d byte = d +ℤ (pos (ones_of 10 (plain_symbol d byte)) -ℤ pos 5)
