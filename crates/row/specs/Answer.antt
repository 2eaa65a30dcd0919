-- What the encoder answers, and what it leaves in the buffer that it is lent.
use Rattle.std.specs.Prelude.{ℕ, Bool, ◌&&◌, List, [], ◌∷◌, length, ℤ, ◌==◌, nat_le, Result, Ok, Err}
use Rattle.dvi.specs.Row.{row_symbols, row_end}
use Rattle.dvi.specs.Symbol.{in_range}
use Rattle.refusal.specs.declared.Refusal.TheVariants.{Length, Discrepancy}
use Rattle.refusal.specs.declared.Refused.{Refused}
use Rattle.refusal.specs.Verdict.{Ask, ask, verdict, answered, kept, handed_back}

-- a row is at most 4,096 long, and the buffer as long as the row
abbrev pub lengths_fit : ℕ → ℕ → Bool
lengths_fit row room = nat_le row 4096 && room == row

-- DVI 1.0's symbols and where they leave the lane

abbrev pub encode_row_asks : ℤ → ℕ → ℕ → List Ask
encode_row_asks d row room = ask (lengths_fit row room) Length ∷ ask (in_range d) Discrepancy ∷ []

-- whether anything is refused of a row's arguments
abbrev pub row_accepted : ℤ → ℕ → ℕ → Result Unit (Refused ℤ)
row_accepted d row room = answered (verdict (encode_row_asks d row room)) (Ok tt) (λ r. Err (handed_back d r))

abbrev pub encode_row_of : ℤ → List ℕ → ℕ → Result ℤ (Refused ℤ)
encode_row_of d bytes room = answered (verdict (encode_row_asks d (length bytes) room)) (Ok (row_end d bytes)) (λ r. Err (handed_back d r))

abbrev pub encode_row_out : ℤ → List ℕ → List ℕ → List ℕ
encode_row_out d bytes out = kept (verdict (encode_row_asks d (length bytes) (length out))) (row_symbols d bytes) out
