-- The encoder into bytes alone: a symbol is two bytes, low byte first. An odd number of bytes is no row of symbols; else it answers as the
-- encoder into symbols does.
use Rattle.std.specs.Prelude.{ℕ, ◌/◌, ◌%◌, List, ◌∷◌, length, ℤ, ◌==◌, Result, Ok, Err}
use Rattle.laws.specs.Bytes.{bytes_of}
use Rattle.dvi.specs.Row.{row_symbols, row_end}
use Rattle.refusal.specs.declared.Refusal.TheVariants.{Length}
use Rattle.refusal.specs.declared.Refused.{Refused}
use Rattle.refusal.specs.Verdict.{Ask, ask, verdict, answered, kept, handed_back}
use Rattle.row.specs.Answer.{encode_row_asks}

-- as many bytes make whole symbols
abbrev pub even : ℕ → Ask
even n = ask (n % 2 == 0) Length

abbrev pub encode_bytes_asks : ℤ → ℕ → ℕ → List Ask
encode_bytes_asks d row room = even room ∷ encode_row_asks d row (room / 2)

abbrev pub encode_bytes_of : ℤ → List ℕ → ℕ → Result ℤ (Refused ℤ)
encode_bytes_of d bytes room = answered (verdict (encode_bytes_asks d (length bytes) room)) (Ok (row_end d bytes)) (λ r. Err (handed_back d r))

abbrev pub encode_bytes_out : ℤ → List ℕ → List ℕ → List ℕ
encode_bytes_out d bytes out = kept (verdict (encode_bytes_asks d (length bytes) (length out))) (bytes_of 2 (row_symbols d bytes)) out
