-- What the AVI builder asks of its numbers, in the order of the refusals.
use Rattle.std.specs.Prelude.{Bool, true, ◌&&◌, List, [], ◌∷◌, ◌++◌, ℕ}
use Rattle.refusal.specs.declared.Refusal.TheVariants.{Unlisted}
use Rattle.refusal.specs.Verdict.{Ask, ask}
use Rattle.blocks.specs.Asks.{packet_asks}
use Rattle.fields.specs.Numbers.{one_of}
use Rattle.fields.specs.ScanInfo.{scan_numbers}
use Rattle.fields.specs.PixelFormat.{pixel_numbers}
use Rattle.fields.specs.Colorimetry.{color_numbers}
use Rattle.fields.specs.PictureAspectRatio.{picture_numbers}
use Rattle.fields.specs.ActiveFormatAspectRatio.{active_numbers}
use Rattle.fields.specs.QuantizationRange.{quantization_numbers}
use Rattle.fields.specs.VideoCode.{code_numbers}

abbrev pub every : List Bool → Bool
every [] = true
every (t ∷ ts) = t && every ts

-- each field's number is one of those listed
abbrev pub avi_tests : (s y c m r q v : ℕ) → List Bool
avi_tests s y c m r q v =
    one_of s scan_numbers ∷ one_of y pixel_numbers ∷ one_of c color_numbers ∷ one_of m picture_numbers ∷ one_of r active_numbers
    ∷ one_of q quantization_numbers ∷ one_of v code_numbers ∷ []

abbrev pub avi_asks : List ℕ → (s y c m r q v : ℕ) → List Ask
avi_asks p s y c m r q v = packet_asks p ++ (ask (every (avi_tests s y c m r q v)) Unlisted ∷ [])
