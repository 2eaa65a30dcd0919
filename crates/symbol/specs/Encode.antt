-- What encoding a byte answers: the symbol of DVI 1.0 and the discrepancy after it; outside -4..4 a refusal, and the discrepancy as it came.
use Rattle.std.specs.Prelude.{List, [], ◌∷◌, ℕ, ℤ, Result, Ok, Err}
use Rattle.dvi.specs.Symbol.{in_range, symbol_of, next_of}
use Rattle.refusal.specs.declared.Refusal.TheVariants.{Discrepancy}
use Rattle.refusal.specs.declared.Refused.{Refused}
use Rattle.symbol.specs.declared.Encoded.{Encoded}
use Rattle.symbol.specs.declared.TmdsSymbol.{TmdsSymbol}
use Rattle.refusal.specs.Verdict.{Ask, ask, verdict, answered, handed_back}

abbrev pub encode_asks : ℤ → List Ask
encode_asks d = ask (in_range d) Discrepancy ∷ []

-- the lane's next step
abbrev pub sent_for : ℤ → ℕ → Encoded TmdsSymbol
sent_for d byte = record { sent = record { 0 = symbol_of d byte }; discrepancy = next_of d byte }

abbrev pub encode_of : ℤ → ℕ → Result (Encoded TmdsSymbol) (Refused ℤ)
encode_of d byte = answered (verdict (encode_asks d)) (Ok (sent_for d byte)) (λ r. Err (handed_back d r))
