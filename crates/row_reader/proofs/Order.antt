-- The reader asks in the table's order, so that the refusal given is the lowest that applies.
use mathlib.Core.List.{List}
use Prim.Native.Nat.{ℕ}
use lib.Dec.{T}
use Rattle.refusal.specs.Verdict.{rising}
use Rattle.row_reader.specs.Answer.{read_row_asks}

pub read_row_in_order : (ss : List ℕ) (room : ℕ) → T (rising (read_row_asks ss room))
read_row_in_order ss room = tt
