-- M: the aspect ratio of the whole picture: the numbers, and what a decision on a number answers.
use Rattle.refusal.specs.declared.Refusal.{Refusal}
use Rattle.std.specs.Prelude.{List, [], ◌∷◌, ℕ, Result}
use Rattle.fields.specs.declared.PictureAspectRatio.{PictureAspectRatio}
use Rattle.fields.specs.declared.PictureAspectRatio.TheVariants.{NoData, Ratio4_3, Ratio16_9}
use Rattle.fields.specs.Numbers.{decided}

abbrev pub picture_number : PictureAspectRatio → ℕ
picture_number NoData = 0
picture_number Ratio4_3 = 1
picture_number Ratio16_9 = 2

abbrev pub picture_numbers : List ℕ
picture_numbers = 0 ∷ 1 ∷ 2 ∷ []

abbrev pub picture_decided : ℕ → Result PictureAspectRatio Refusal → Type 0
picture_decided = decided picture_number picture_numbers
