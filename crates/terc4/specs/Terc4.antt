-- What the two entries ask of their arguments, and what they answer.
use Rattle.std.specs.Prelude.{List, [], ◌∷◌, ℕ, ltb, Option, Result, Ok, Err}
use Rattle.std.specs.Bool.{then_some}
use Rattle.refusal.specs.declared.Refusal.TheVariants.{Unlisted, NotTerc4}
use Rattle.refusal.specs.declared.Refusal.{Refusal}
use Rattle.symbol.specs.declared.TmdsSymbol.{TmdsSymbol}
use Rattle.refusal.specs.Verdict.{Ask, ask, verdict, answered}
use Rattle.hdmi.specs.Terc4.{terc4, terc4_number}

abbrev pub symbol_asks : ℕ → List Ask
symbol_asks n = ask (ltb n 16) Unlisted ∷ []

abbrev pub symbol_answer : ℕ → Result TmdsSymbol Refusal
symbol_answer n = answered (verdict (symbol_asks n)) (Ok (record { 0 = terc4 n })) Err

-- the number of a symbol, where it is one of the sixteen
abbrev pub number_answer : ℕ → Option ℕ
number_answer x = then_some (ltb (terc4_number x) 16) (terc4_number x)

-- it is one of the sixteen
abbrev pub read_asks : ℕ → List Ask
read_asks x = ask (ltb (terc4_number x) 16) (NotTerc4 0) ∷ []

abbrev pub read_answer : ℕ → Result ℕ Refusal
read_answer x = answered (verdict (read_asks x)) (Ok (terc4_number x)) Err
