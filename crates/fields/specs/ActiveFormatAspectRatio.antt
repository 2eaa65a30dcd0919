-- R: the aspect ratio of the part that shows something: the numbers, and what a decision on a number answers.
use Rattle.refusal.specs.declared.Refusal.{Refusal}
use Rattle.std.specs.Prelude.{List, [], ◌∷◌, ℕ, Result}
use Rattle.fields.specs.declared.ActiveFormatAspectRatio.{ActiveFormatAspectRatio}
use Rattle.fields.specs.declared.ActiveFormatAspectRatio.TheVariants.{NoData, SameAsPar, Ratio4_3, Ratio16_9, Ratio14_9}
use Rattle.fields.specs.Numbers.{decided}

abbrev pub active_number : ActiveFormatAspectRatio → ℕ
active_number NoData = 0
active_number SameAsPar = 8
active_number Ratio4_3 = 9
active_number Ratio16_9 = 10
active_number Ratio14_9 = 11

abbrev pub active_numbers : List ℕ
active_numbers = 0 ∷ 8 ∷ 9 ∷ 10 ∷ 11 ∷ []

abbrev pub active_decided : ℕ → Result ActiveFormatAspectRatio Refusal → Type 0
active_decided = decided active_number active_numbers
