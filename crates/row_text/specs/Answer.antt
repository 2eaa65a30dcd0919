-- What encoding a row as text answers, and what it leaves in the two buffers that it is lent.
use Rattle.std.specs.Prelude.{Bool, ◌&&◌, List, ◌∷◌, ℕ, ◌*◌, leb, eqb, ℤ, length, Result, Ok, Err}
use Rattle.dvi.specs.Row.{row_symbols, row_end}
use Rattle.refusal.specs.declared.Refusal.TheVariants.{Length}
use Rattle.refusal.specs.declared.Refused.{Refused}
use Rattle.refusal.specs.Verdict.{Ask, ask, verdict, answered, kept, handed_back}
use Rattle.row.specs.Answer.{encode_row_asks}
use Rattle.row_text.specs.Text.{text_of}

-- four characters of text for each byte of a piece
abbrev pub text_fits : ℕ → ℕ → Bool
text_fits row text = leb row 4096 && eqb text (4 * row)

-- the text's length, then the row's own questions
abbrev pub text_asks : ℤ → ℕ → ℕ → ℕ → List Ask
text_asks d row symbols text = ask (text_fits row text) Length ∷ encode_row_asks d row symbols

abbrev pub text_row_of : ℤ → List ℕ → ℕ → ℕ → Result ℤ (Refused ℤ)
text_row_of d bytes symbols text = answered (verdict (text_asks d (length bytes) symbols text)) (Ok (row_end d bytes)) (λ r. Err (handed_back d r))

abbrev pub text_row_symbols : ℤ → List ℕ → List ℕ → ℕ → List ℕ
text_row_symbols d bytes symbols text = kept (verdict (text_asks d (length bytes) (length symbols) text)) (row_symbols d bytes) symbols

abbrev pub text_row_text : ℤ → List ℕ → ℕ → List ℕ → List ℕ
text_row_text d bytes symbols text = kept (verdict (text_asks d (length bytes) symbols (length text))) (text_of (row_symbols d bytes)) text
