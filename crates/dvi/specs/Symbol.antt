-- The symbol of a byte and the discrepancy after it. The discrepancy d of a lane is half of DVI 1.0's Cnt, and -4..4 are all the values it takes.
use Rattle.std.specs.Prelude.{Bool, ◌≡◌, ℕ, ◌<◌, T, ℤ, pos, negsuc, ◌*ℤ◌}
use Rattle.std.specs.Int.Signed.{quot_z}
use Rattle.laws.specs.Range.{between}
use Rattle.dvi.specs.Encoder.{encoder, value_of}

-- -4 to 4
abbrev pub in_range : ℤ → Bool
in_range = between (negsuc 3) (pos 4)

-- what DVI 1.0 sends for the byte at Cnt = 2d, as a number of ten bits
unfoldable pub symbol_of : ℤ → ℕ → ℕ
symbol_of d byte = value_of (encoder (pos 2 *ℤ d) byte).qout

-- half of its new Cnt
unfoldable pub next_of : ℤ → ℕ → ℤ
next_of d byte = quot_z (encoder (pos 2 *ℤ d) byte).Cnt (pos 2)

-- s is the symbol of the byte b at the discrepancy d
pub record Encodes (s b : ℕ) (d : ℤ) : Type 0 where
  pub range : T (in_range d)
  pub byte : b < 256
  pub gives : symbol_of d b ≡ s

-- a data symbol: some byte at some discrepancy has it
abbrev pub DataSymbol : ℕ → Type 0
DataSymbol s = (b : ℕ) × (d : ℤ) × Encodes s b d
