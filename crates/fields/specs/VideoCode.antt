-- The video code: size and rate: the numbers, and what a decision on a number answers.
use Rattle.refusal.specs.declared.Refusal.{Refusal}
use Rattle.std.specs.Prelude.{List, [], ◌∷◌, ℕ, Result}
use Rattle.fields.specs.declared.VideoCode.{VideoCode}
use Rattle.fields.specs.declared.VideoCode.TheVariants.{Code640x480P60, Code720x480P60}
use Rattle.fields.specs.Numbers.{decided}

abbrev pub code_number : VideoCode → ℕ
code_number Code640x480P60 = 1
code_number Code720x480P60 = 2

abbrev pub code_numbers : List ℕ
code_numbers = 1 ∷ 2 ∷ []

abbrev pub code_decided : ℕ → Result VideoCode Refusal → Type 0
code_decided = decided code_number code_numbers
