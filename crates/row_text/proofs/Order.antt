-- The room's entry asks in the table's order, so that the refusal given is the lowest that applies.
use Prim.Native.Nat.{ℕ}
use lib.Dec.{T}
use lib.IntN.{ℤ}
use Rattle.refusal.specs.Verdict.{rising}
use Rattle.row_text.specs.Answer.{text_asks}

pub text_in_order : (d : ℤ) (row symbols text : ℕ) → T (rising (text_asks d row symbols text))
text_in_order d row symbols text = tt
