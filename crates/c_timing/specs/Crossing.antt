-- How command words and the control word of a timing cross.
use Rattle.symbol.specs.declared.Tmds3.{Tmds3}
use Rattle.refusal.specs.declared.Refusal.{Refusal}
use Rattle.std.specs.Prelude.{ℕ, Result}
use Rattle.crossing.specs.declared.Answer.{Answer}
use Rattle.crossing.specs.Crossing.{answered_by}

abbrev pub commanded : Result ℕ Refusal → Answer
commanded = answered_by (λ w. w)

abbrev pub synced : Result Tmds3 Refusal → Answer
synced = answered_by (λ w. w.0)
