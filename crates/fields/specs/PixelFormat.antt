-- Y: how a pixel is coded: the numbers, and what a decision on a number answers.
use Rattle.refusal.specs.declared.Refusal.{Refusal}
use Rattle.std.specs.Prelude.{List, [], ◌∷◌, ℕ, Result}
use Rattle.fields.specs.declared.PixelFormat.{PixelFormat}
use Rattle.fields.specs.declared.PixelFormat.TheVariants.{Rgb, Ycbcr422, Ycbcr444}
use Rattle.fields.specs.Numbers.{decided}

abbrev pub pixel_number : PixelFormat → ℕ
pixel_number Rgb = 0
pixel_number Ycbcr422 = 1
pixel_number Ycbcr444 = 2

abbrev pub pixel_numbers : List ℕ
pixel_numbers = 0 ∷ 1 ∷ 2 ∷ []

abbrev pub pixel_decided : ℕ → Result PixelFormat Refusal → Type 0
pixel_decided = decided pixel_number pixel_numbers
