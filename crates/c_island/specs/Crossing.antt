-- How the answers on TERC4 and of the island's reader cross.
use Rattle.std.specs.Prelude.{ℕ, Result}
use Rattle.refusal.specs.declared.Refusal.{Refusal}
use Rattle.symbol.specs.declared.TmdsSymbol.{TmdsSymbol}
use Rattle.crossing.specs.declared.Answer.{Answer}
use Rattle.crossing.specs.Crossing.{answered_by}

abbrev pub terc4_symbol : Result TmdsSymbol Refusal → Answer
terc4_symbol = answered_by (λ s. s.0)

abbrev pub terc4_read : Result ℕ Refusal → Answer
terc4_read = answered_by (λ n. n)

abbrev pub island_read : Result ℕ Refusal → Answer
island_read = answered_by (λ hv. hv)
