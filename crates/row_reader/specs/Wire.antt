-- The reader of bytes alone: a symbol is two bytes, low byte first. An odd number of bytes is no row of symbols; else it answers as the reader of
-- symbols does.
use Rattle.std.specs.Prelude.{List, ◌∷◌, ℕ, ◌/◌, length}
use Rattle.laws.specs.Bytes.{numbers_of}
use Rattle.dvi.specs.Row.{row_bytes}
use Rattle.refusal.specs.Verdict.{Ask, verdict, kept}
use Rattle.row.specs.Wire.{even}
use Rattle.row_reader.specs.Answer.{read_row_asks}

-- the symbols that a buffer of bytes holds
abbrev pub symbols_in : List ℕ → List ℕ
symbols_in lent = numbers_of 2 (length lent / 2) lent

abbrev pub read_bytes_asks : List ℕ → ℕ → List Ask
read_bytes_asks lent room = even (length lent) ∷ read_row_asks (symbols_in lent) room

abbrev pub read_bytes_out : List ℕ → List ℕ → List ℕ
read_bytes_out lent out = kept (verdict (read_bytes_asks lent (length out))) (row_bytes (symbols_in lent)) out
