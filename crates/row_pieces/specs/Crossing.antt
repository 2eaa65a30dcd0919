-- The same in calls of chaffrail_encode_row and chaffrail_read_row: a call is answered when its refusal is 0, and the encoder's next call is given
-- the carry.
use Rattle.std.specs.Prelude.{List, ◌≡◌, ℕ, ℤ, length}
use Rattle.refusal.specs.Verdict.{verdict}
use Rattle.row.specs.Wire.{encode_bytes_of, encode_bytes_out}
use Rattle.row_reader.specs.Wire.{read_bytes_asks, read_bytes_out}
use Rattle.crossing.specs.declared.Answer.{Answer}
use Rattle.crossing.specs.Crossing.{told}
use Rattle.c_row.specs.Crossing.{row_ended}
use Rattle.row_pieces.specs.Calls.{Piece, Calls}

-- what the two functions answer
abbrev pub encode_answer : ℤ → Piece → Answer
encode_answer d p = row_ended (encode_bytes_of d p.part (length p.room))

abbrev pub read_answer : Piece → Answer
read_answer p = told (verdict (read_bytes_asks p.part (length p.room)))

abbrev pub EncodedC : ℤ → List Piece → List ℕ → ℤ → Type 0
EncodedC = Calls (λ d p e. ((encode_answer d p).refusal ≡ 0) × ((encode_answer d p).carry ≡ e)) (λ d p. encode_bytes_out d p.part p.room)

abbrev pub ReadC : List Piece → List ℕ → Type 0
ReadC ps bs = Calls {S = Unit {0}} (λ _ p _. (read_answer p).refusal ≡ 0) (λ _ p. read_bytes_out p.part p.room) tt ps bs tt
