-- C: the colour space: the numbers, and what a decision on a number answers.
use Rattle.refusal.specs.declared.Refusal.{Refusal}
use Rattle.std.specs.Prelude.{List, [], ◌∷◌, ℕ, Result}
use Rattle.fields.specs.declared.Colorimetry.{Colorimetry}
use Rattle.fields.specs.declared.Colorimetry.TheVariants.{NoData, Itu601, Itu709, Extended}
use Rattle.fields.specs.Numbers.{decided}

abbrev pub color_number : Colorimetry → ℕ
color_number NoData = 0
color_number Itu601 = 1
color_number Itu709 = 2
color_number Extended = 3

abbrev pub color_numbers : List ℕ
color_numbers = 0 ∷ 1 ∷ 2 ∷ 3 ∷ []

abbrev pub color_decided : ℕ → Result Colorimetry Refusal → Type 0
color_decided = decided color_number color_numbers
