-- The listed numbers at their edges.
use mathlib.Core.Path.{◌≡◌, refl}
use mathlib.Core.Bool.{Bool, true, false}
use mathlib.Core.List.{List, [], ◌∷◌}
use Prim.Native.Nat.{ℕ}
use Rattle.fields.specs.Numbers.{one_of}
use Rattle.fields.specs.ScanInfo.{scan_numbers}
use Rattle.fields.specs.PixelFormat.{pixel_numbers}
use Rattle.fields.specs.Colorimetry.{color_numbers}
use Rattle.fields.specs.PictureAspectRatio.{picture_numbers}
use Rattle.fields.specs.ActiveFormatAspectRatio.{active_numbers}
use Rattle.fields.specs.QuantizationRange.{quantization_numbers}
use Rattle.fields.specs.VideoCode.{code_numbers}

-- each number of the list, judged
abbrev judged : List ℕ → List ℕ → List Bool
judged [] numbers = []
judged (n ∷ ns) numbers = one_of n numbers ∷ judged ns numbers

pub scan_edges : judged (0 ∷ 2 ∷ 3 ∷ []) scan_numbers ≡ true ∷ true ∷ false ∷ []
scan_edges = refl

pub pixel_edges : judged (0 ∷ 2 ∷ 3 ∷ []) pixel_numbers ≡ true ∷ true ∷ false ∷ []
pixel_edges = refl

pub color_edges : judged (0 ∷ 3 ∷ 4 ∷ []) color_numbers ≡ true ∷ true ∷ false ∷ []
color_edges = refl

pub picture_edges : judged (0 ∷ 2 ∷ 3 ∷ []) picture_numbers ≡ true ∷ true ∷ false ∷ []
picture_edges = refl

pub active_edges : judged (0 ∷ 1 ∷ 7 ∷ 8 ∷ 11 ∷ 12 ∷ 255 ∷ []) active_numbers ≡ true ∷ false ∷ false ∷ true ∷ true ∷ false ∷ false ∷ []
active_edges = refl

pub quantization_edges : judged (0 ∷ 2 ∷ 3 ∷ []) quantization_numbers ≡ true ∷ true ∷ false ∷ []
quantization_edges = refl

pub code_edges : judged (0 ∷ 1 ∷ 2 ∷ 3 ∷ []) code_numbers ≡ false ∷ true ∷ true ∷ false ∷ []
code_edges = refl
