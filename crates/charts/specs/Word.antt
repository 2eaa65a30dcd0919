-- The row encoder by words. A word for each byte has two halves, one for each side of 0 on which the lane can stand: the symbol that goes out there in
-- ten bits, and above it in five what it adds to the discrepancy, modulo 32. Bit 31 says in which of them 0 is. The lane's discrepancy is held
-- counted from -15 in the low five bits of a number, so that bit 4 of its sum with bit 31 picks the half; what stands above them is never looked at.
use Rattle.std.specs.Prelude.{not, ◌≡◌, ℕ, ◌+◌, ◌*◌, ◌/◌, ◌%◌, ◌<◌, ◌^◌, eqb, ℤ, pos, negsuc, ◌-ℤ◌}
use Rattle.dvi.specs.Plain.{flag, ones_of}
use Rattle.dvi.specs.Symbol.{symbol_of, next_of}

-- 11..19 for -4..4
abbrev pub unbiased : ℕ → ℤ
unbiased k = pos k -ℤ pos 15

-- the discrepancy, counted from -15, that a number holds
abbrev pub held : ℕ → ℕ
held x = x % 32

-- it holds one
pub record Field (x : ℕ) : Type 0 where
  pub least : 10 < held x
  pub most : held x < 20

-- one step from d: the byte's symbol, and a number that holds the next discrepancy
pub record Step (d : ℤ) (byte symbol x : ℕ) : Type 0 where
  pub field : Field x
  pub next : unbiased (held x) ≡ next_of d byte
  pub sent : symbol ≡ symbol_of d byte

-- ---- what is computed from the number and the word

abbrev pub half : ℕ → ℕ → ℕ
half x word = word / 2 ^ ((x + word / 2 ^ 31) % 2 ^ 32 / 16 % 2 * 16)

abbrev pub after : ℕ → ℕ → ℕ
after x y = (x + y / 1024) % 2 ^ 32

-- ---- the word by its rule

-- a symbol, and above it its ones less five
abbrev half_of : ℕ → ℕ
half_of symbol = symbol + 1024 * ((ones_of 10 symbol + 27) % 32)

-- the symbols of both sides, and whether 0 goes with the side above it
abbrev word_by : ℕ → ℕ → ℕ → ℕ
word_by below middle above = half_of below + 2 ^ 16 * half_of above + 2 ^ 31 * flag (not (eqb below middle))

abbrev pub word_of : ℕ → ℕ
word_of byte = word_by (symbol_of (negsuc 0) byte) (symbol_of (pos 0) byte) (symbol_of (pos 1) byte)
