-- The fields of the AVI info frame together: the frame that they make, and what a decision on their numbers answers.
use Rattle.std.specs.Prelude.{◌≡◌, true, false, List, [], ◌∷◌, ℕ, Result, Ok, Err}
use Rattle.refusal.specs.declared.Refusal.{Refusal}
use Rattle.refusal.specs.declared.Refusal.TheVariants.{Unlisted}
use Rattle.hdmi.specs.Info.{avi_info_frame}
use Rattle.fields.specs.ScanInfo.{scan_number}
use Rattle.fields.specs.PixelFormat.{pixel_number}
use Rattle.fields.specs.Colorimetry.{color_number}
use Rattle.fields.specs.PictureAspectRatio.{picture_number}
use Rattle.fields.specs.ActiveFormatAspectRatio.{active_number}
use Rattle.fields.specs.QuantizationRange.{quantization_number}
use Rattle.fields.specs.VideoCode.{code_number}
use Rattle.packet.specs.declared.AviFields.{AviFields}
use Rattle.packet.specs.Asks.{every, avi_tests}

abbrev pub frame_of : AviFields → List ℕ
frame_of f =
    avi_info_frame (scan_number f.scan) (pixel_number f.pixel_format) (color_number f.colorimetry) (picture_number f.picture_aspect)
    (active_number f.active_aspect) (quantization_number f.quantization) (code_number f.video_code)

abbrev pub numbers_of : AviFields → List ℕ
numbers_of f =
    scan_number f.scan ∷ pixel_number f.pixel_format ∷ color_number f.colorimetry ∷ picture_number f.picture_aspect ∷ active_number f.active_aspect
    ∷ quantization_number f.quantization ∷ code_number f.video_code ∷ []

-- the fields with these numbers, or a refusal where one of them isn't listed
abbrev pub avi_decided : (s y c m r q v : ℕ) → Result AviFields Refusal → Type 0
avi_decided s y c m r q v (Ok f) = (every (avi_tests s y c m r q v) ≡ true) × (numbers_of f ≡ s ∷ y ∷ c ∷ m ∷ r ∷ q ∷ v ∷ [])
avi_decided s y c m r q v (Err e) = (every (avi_tests s y c m r q v) ≡ false) × (e ≡ Unlisted)
