-- How the answers on symbols and pairs cross.
use Rattle.refusal.specs.declared.Refusal.{Refusal}
use Rattle.refusal.specs.declared.Refused.{Refused}
use Rattle.symbol.specs.declared.Encoded.{Encoded}
use Rattle.symbol.specs.declared.TmdsPair.{TmdsPair}
use Rattle.symbol.specs.declared.TmdsSymbol.{TmdsSymbol}
use Rattle.std.specs.Prelude.{ℕ, ℤ, Result}
use Rattle.crossing.specs.declared.Answer.{Answer}
use Rattle.crossing.specs.Crossing.{answered_by, carried_by}

abbrev pub encoded : Result (Encoded TmdsSymbol) (Refused ℤ) → Answer
encoded = carried_by (λ e. e.sent.0) (λ e. e.discrepancy) (λ d. d)

abbrev pub read : Result ℕ Refusal → Answer
read = answered_by (λ b. b)

abbrev pub joined : Result TmdsPair Refusal → Answer
joined = answered_by (λ p. p.0)
