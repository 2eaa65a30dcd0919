-- The same in bytes alone: a symbol is two bytes, low byte first.
use Rattle.std.specs.Prelude.{List, ◌≡◌, ℕ, ◌*◌, ◌≤◌, ℤ, length, Ok}
use Rattle.refusal.specs.Verdict.{verdict}
use Rattle.row.specs.Wire.{encode_bytes_of, encode_bytes_out}
use Rattle.row_reader.specs.Wire.{read_bytes_asks, read_bytes_out}
use Rattle.row_pieces.specs.Calls.{Piece, Calls}

-- a piece that the encoder may be called with: at most 4,096 bytes, with a buffer of two for each
pub record FitsOut (p : Piece) : Type 0 where
  pub short : length p.part ≤ 4096
  pub twice : length p.room ≡ 2 * length p.part

-- and the reader: two bytes for each of at most 4,096 in the buffer
pub record FitsIn (p : Piece) : Type 0 where
  pub short : length p.room ≤ 4096
  pub twice : length p.part ≡ 2 * length p.room

abbrev pub EncodedBytes : ℤ → List Piece → List ℕ → ℤ → Type 0
EncodedBytes = Calls (λ d p e. encode_bytes_of d p.part (length p.room) ≡ Ok e) (λ d p. encode_bytes_out d p.part p.room)

abbrev pub ReadBytes : List Piece → List ℕ → Type 0
ReadBytes ps bs = Calls {S = Unit {0}} (λ _ p _. verdict (read_bytes_asks p.part (length p.room)) ≡ Ok tt) (λ _ p. read_bytes_out p.part p.room) tt ps bs tt
