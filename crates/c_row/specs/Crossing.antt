-- How a row's end crosses: nothing is answered, and the discrepancy is carried.
use Rattle.refusal.specs.declared.Refused.{Refused}
use Rattle.std.specs.Prelude.{ℤ, Result}
use Rattle.crossing.specs.declared.Answer.{Answer}
use Rattle.crossing.specs.Crossing.{carried_by}

abbrev pub row_ended : Result ℤ (Refused ℤ) → Answer
row_ended = carried_by (λ _. 0) (λ d. d) (λ d. d)
