-- What the reader answers, and what it leaves in the buffer that it is lent: the bytes of a row of data symbols.
use Rattle.std.specs.Prelude.{not, List, [], ◌∷◌, ℕ, eqb, length, get_or}
use Rattle.laws.specs.Search.{first}
use Rattle.dvi.specs.Decoder.{is_data}
use Rattle.dvi.specs.Row.{row_bytes}
use Rattle.refusal.specs.declared.Refusal.TheVariants.{Length, NotData}
use Rattle.refusal.specs.Verdict.{Ask, ask, verdict, kept}
use Rattle.row.specs.Answer.{lengths_fit}

-- the first index whose symbol is no data symbol, or the length where there is none
abbrev pub first_bad : List ℕ → ℕ
first_bad ss = first (λ i. not (is_data (get_or ss i 0))) 0 (length ss)

-- every symbol is a data symbol
abbrev pub data_asks : List ℕ → List Ask
data_asks ss = ask (eqb (first_bad ss) (length ss)) (NotData (first_bad ss)) ∷ []

abbrev pub read_row_asks : List ℕ → ℕ → List Ask
read_row_asks ss room = ask (lengths_fit (length ss) room) Length ∷ data_asks ss

abbrev pub read_row_out : List ℕ → List ℕ → List ℕ
read_row_out ss out = kept (verdict (read_row_asks ss (length out))) (row_bytes ss) out
