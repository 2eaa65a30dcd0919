-- Two zero bytes from discrepancy 0 are the lines 100 and 3ff; and the bound at its edge.
use mathlib.Core.Path.{◌≡◌, refl}
use mathlib.Core.List.{[], ◌∷◌}
use lib.IntN.{pos}
use Rattle.std.specs.Prelude.{Ok, Err}
use Rattle.dvi.specs.Row.{row_symbols}
use Rattle.dvi.specs.Symbol.{symbol_of, next_of}
use Rattle.refusal.specs.declared.Refusal.TheVariants.{Length}
use Rattle.refusal.specs.Verdict.{verdict}
use Rattle.row_text.specs.Answer.{text_asks}
use Rattle.row_text.specs.Text.{text_of}

pub two_zeros : text_of (row_symbols (pos 0) (0 ∷ 0 ∷ [])) ≡ 0x31 ∷ 0x30 ∷ 0x30 ∷ 10 ∷ 0x33 ∷ 0x66 ∷ 0x66 ∷ 10 ∷ []
unfolding symbol_of next_of
two_zeros = refl

pub whole_piece : verdict (text_asks (pos 0) 4096 4096 16384) ≡ Ok tt
whole_piece = refl

pub too_long : verdict (text_asks (pos 0) 4097 4097 16388) ≡ Err Length
too_long = refl

pub text_short : verdict (text_asks (pos 0) 4096 4096 16383) ≡ Err Length
text_short = refl
