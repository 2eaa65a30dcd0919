-- A row of bytes on one lane, and a row of symbols read back.
use Rattle.std.specs.Prelude.{List, [], ◌∷◌, map, ℕ, ◌+◌, ℤ}
use Rattle.dvi.specs.Decoder.{byte_of}
use Rattle.dvi.specs.Encoder.{encoder, value_of}
use Rattle.dvi.specs.Plain.{ones_of}
use Rattle.dvi.specs.Symbol.{symbol_of, next_of}

-- what DVI 1.0 sends for the bytes from Cnt on: each with the count that the one before left
abbrev pub dvi_row : ℤ → List ℕ → List ℕ
dvi_row Cnt [] = []
dvi_row Cnt (b ∷ bs) = value_of (encoder Cnt b).qout ∷ dvi_row (encoder Cnt b).Cnt bs

-- and the count that it leaves
abbrev pub dvi_cnt : ℤ → List ℕ → ℤ
dvi_cnt Cnt [] = Cnt
dvi_cnt Cnt (b ∷ bs) = dvi_cnt (encoder Cnt b).Cnt bs

-- the same by the discrepancy
abbrev pub row_symbols : ℤ → List ℕ → List ℕ
row_symbols d [] = []
row_symbols d (b ∷ bs) = symbol_of d b ∷ row_symbols (next_of d b) bs

abbrev pub row_end : ℤ → List ℕ → ℤ
row_end d [] = d
row_end d (b ∷ bs) = row_end (next_of d b) bs

-- the ones of a row of symbols
abbrev pub row_ones : List ℕ → ℕ
row_ones [] = 0
row_ones (s ∷ ss) = ones_of 10 s + row_ones ss

-- the bytes that the decoder gives for a row of symbols
abbrev pub row_bytes : List ℕ → List ℕ
row_bytes ss = map byte_of ss
