-- A row that goes in pieces, in calls of the two entries one after the other: each call of the encoder with the discrepancy that the last one
-- returned. The reader hands nothing on.
use Rattle.std.specs.Prelude.{List, ◌≡◌, ℕ, ◌≤◌, ℤ, length, Ok}
use Rattle.refusal.specs.Verdict.{verdict}
use Rattle.row.specs.Answer.{encode_row_of, encode_row_out}
use Rattle.row_reader.specs.Answer.{read_row_asks, read_row_out}
use Rattle.row_pieces.specs.Calls.{Piece, Calls}

-- a piece that may be called with: at most 4,096 long, with a buffer as long
pub record Fits (p : Piece) : Type 0 where
  pub short : length p.part ≤ 4096
  pub same : length p.room ≡ length p.part

-- `Encoded d ps ss e`: from d on every call was answered, the buffers joined hold ss, and the last call returned e
abbrev pub Encoded : ℤ → List Piece → List ℕ → ℤ → Type 0
Encoded = Calls (λ d p e. encode_row_of d p.part (length p.room) ≡ Ok e) (λ d p. encode_row_out d p.part p.room)

-- `Read ps bs`: every call of the reader was answered, and the buffers joined hold bs
abbrev pub Read : List Piece → List ℕ → Type 0
Read ps bs = Calls {S = Unit {0}} (λ _ p _. verdict (read_row_asks p.part (length p.room)) ≡ Ok tt) (λ _ p. read_row_out p.part p.room) tt ps bs tt
