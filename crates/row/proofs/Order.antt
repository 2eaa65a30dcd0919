-- The encoder asks in the table's order, so that the refusal given is the lowest that applies.
use Rattle.std.proofs.Common.{ℕ, T, ℤ}
use Rattle.refusal.specs.Verdict.{rising}
use Rattle.row.specs.Answer.{encode_row_asks}

pub encode_row_in_order : (d : ℤ) (row room : ℕ) → T (rising (encode_row_asks d row room))
encode_row_in_order d row room = tt
