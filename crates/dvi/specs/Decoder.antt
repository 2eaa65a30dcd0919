-- DVI 1.0, section 3.3: the T.M.D.S. decoder, as the flow chart of figure 3-6 draws it. D is the symbol here, Q the byte. The chart takes any ten
-- bits; which of them are data symbols it doesn't say.
use Rattle.std.specs.Prelude.{Bool, not, cond, ◌&&◌, ◌||◌, List, [], ◌∷◌, map, ℕ, ◌/◌, ◌%◌, ltb, eqb, ℤ, pos, negsuc}
use Rattle.dvi.specs.Encoder.{bits_of, value_of, XOR, XNOR}
use Rattle.dvi.specs.Symbol.{symbol_of}

-- D[9] and D[8]
abbrev pub bit9 : ℕ → Bool
bit9 s = eqb (s / 512 % 2) 1

abbrev pub bit8 : ℕ → Bool
bit8 s = eqb (s / 256 % 2) 1

-- D[0:7], complemented where D[9] is set
abbrev pub upright : ℕ → List Bool
upright s = cond (bit9 s) (map not (bits_of 8 s)) (bits_of 8 s)

-- Q[i] = D[i] op D[i-1], from i = 1 on
abbrev pub unchained : (Bool → Bool → Bool) → Bool → List Bool → List Bool
unchained op previous [] = []
unchained op previous (d ∷ ds) = op d previous ∷ unchained op d ds

-- with Q[0] = D[0]
abbrev pub restored : (Bool → Bool → Bool) → List Bool → List Bool
restored op [] = []
restored op (d ∷ ds) = d ∷ unchained op d ds

-- the byte that the chart gives for a symbol
unfoldable pub byte_of : ℕ → ℕ
byte_of s = value_of (cond (bit8 s) (restored XOR (upright s)) (restored XNOR (upright s)))

-- whether s is sent at all: it has ten bits, and the encoder sends it for that byte at 0 or on either side of it
unfoldable pub is_data : ℕ → Bool
is_data s = ltb s 1024 && (sent_at (pos 0) || sent_at (pos 1) || sent_at (negsuc 0))
  where
    sent_at : ℤ → Bool
    sent_at d = eqb (symbol_of d (byte_of s)) s
