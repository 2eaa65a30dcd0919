-- Q: the range of the levels: the numbers, and what a decision on a number answers.
use Rattle.refusal.specs.declared.Refusal.{Refusal}
use Rattle.std.specs.Prelude.{List, [], ◌∷◌, ℕ, Result}
use Rattle.fields.specs.declared.QuantizationRange.{QuantizationRange}
use Rattle.fields.specs.declared.QuantizationRange.TheVariants.{Default, Limited, Full}
use Rattle.fields.specs.Numbers.{decided}

abbrev pub quantization_number : QuantizationRange → ℕ
quantization_number Default = 0
quantization_number Limited = 1
quantization_number Full = 2

abbrev pub quantization_numbers : List ℕ
quantization_numbers = 0 ∷ 1 ∷ 2 ∷ []

abbrev pub quantization_decided : ℕ → Result QuantizationRange Refusal → Type 0
quantization_decided = decided quantization_number quantization_numbers
