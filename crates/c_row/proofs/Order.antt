-- The byte forms ask in the table's order, so that the refusal given is the lowest that applies.
use mathlib.Core.List.{List}
use Prim.Native.Nat.{ℕ}
use lib.Dec.{T}
use lib.IntN.{ℤ}
use Rattle.refusal.specs.Verdict.{rising}
use Rattle.row.specs.Wire.{encode_bytes_asks}
use Rattle.row_reader.specs.Wire.{read_bytes_asks}

pub encode_row_in_order : (d : ℤ) (row room : ℕ) → T (rising (encode_bytes_asks d row room))
encode_row_in_order d row room = tt

pub read_row_in_order : (lent : List ℕ) (room : ℕ) → T (rising (read_bytes_asks lent room))
read_row_in_order lent room = tt
