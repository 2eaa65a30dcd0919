-- Each field's numbers are listed and lead back to it, so its decision has one answer.
use mathlib.Core.Path.{◌≡◌, refl}
use mathlib.Core.Bool.{true, cond}
use Prim.Native.Nat.{ℕ}
use lib.Dec.{eqb}
use Rattle.std.specs.Prelude.{Result}
use Rattle.refusal.specs.declared.Refusal.{Refusal}
use Rattle.fields.specs.declared.ScanInfo.{ScanInfo}
use Rattle.fields.specs.declared.ScanInfo.TheVariants as ScanInfoV
use Rattle.fields.specs.ScanInfo.{scan_number, scan_numbers, scan_decided}
use Rattle.fields.specs.declared.PixelFormat.{PixelFormat}
use Rattle.fields.specs.declared.PixelFormat.TheVariants as PixelFormatV
use Rattle.fields.specs.PixelFormat.{pixel_number, pixel_numbers, pixel_decided}
use Rattle.fields.specs.declared.Colorimetry.{Colorimetry}
use Rattle.fields.specs.declared.Colorimetry.TheVariants as ColorimetryV
use Rattle.fields.specs.Colorimetry.{color_number, color_numbers, color_decided}
use Rattle.fields.specs.declared.PictureAspectRatio.{PictureAspectRatio}
use Rattle.fields.specs.declared.PictureAspectRatio.TheVariants as PictureAspectRatioV
use Rattle.fields.specs.PictureAspectRatio.{picture_number, picture_numbers, picture_decided}
use Rattle.fields.specs.declared.ActiveFormatAspectRatio.{ActiveFormatAspectRatio}
use Rattle.fields.specs.declared.ActiveFormatAspectRatio.TheVariants as ActiveFormatAspectRatioV
use Rattle.fields.specs.ActiveFormatAspectRatio.{active_number, active_numbers, active_decided}
use Rattle.fields.specs.declared.QuantizationRange.{QuantizationRange}
use Rattle.fields.specs.declared.QuantizationRange.TheVariants as QuantizationRangeV
use Rattle.fields.specs.QuantizationRange.{quantization_number, quantization_numbers, quantization_decided}
use Rattle.fields.specs.declared.VideoCode.{VideoCode}
use Rattle.fields.specs.declared.VideoCode.TheVariants as VideoCodeV
use Rattle.fields.specs.VideoCode.{code_number, code_numbers, code_decided}
use Rattle.fields.specs.Numbers.{one_of}
use Rattle.fields.proofs.Deciding.{one_of_lem, one_answer}

abbrev scan_back : ℕ → ScanInfo
scan_back n = cond (eqb n 0) ScanInfoV.NoData (cond (eqb n 1) ScanInfoV.Overscan ScanInfoV.Underscan)

scan_known : (x : ScanInfo) → (one_of (scan_number x) scan_numbers ≡ true) × (scan_back (scan_number x) ≡ x)
scan_known ScanInfoV.NoData = (refl, refl)
scan_known ScanInfoV.Overscan = (refl, refl)
scan_known ScanInfoV.Underscan = (refl, refl)

pub scan_in : (n : ℕ) (x : ScanInfo) → scan_number x ≡ n → one_of n scan_numbers ≡ true
scan_in = one_of_lem scan_number scan_numbers scan_back scan_known

pub scan_once : (n : ℕ) (c d : Result ScanInfo Refusal) → scan_decided n c → scan_decided n d → c ≡ d
scan_once = one_answer scan_number scan_numbers scan_back scan_known

abbrev pixel_back : ℕ → PixelFormat
pixel_back n = cond (eqb n 0) PixelFormatV.Rgb (cond (eqb n 1) PixelFormatV.Ycbcr422 PixelFormatV.Ycbcr444)

pixel_known : (x : PixelFormat) → (one_of (pixel_number x) pixel_numbers ≡ true) × (pixel_back (pixel_number x) ≡ x)
pixel_known PixelFormatV.Rgb = (refl, refl)
pixel_known PixelFormatV.Ycbcr422 = (refl, refl)
pixel_known PixelFormatV.Ycbcr444 = (refl, refl)

pub pixel_in : (n : ℕ) (x : PixelFormat) → pixel_number x ≡ n → one_of n pixel_numbers ≡ true
pixel_in = one_of_lem pixel_number pixel_numbers pixel_back pixel_known

pub pixel_once : (n : ℕ) (c d : Result PixelFormat Refusal) → pixel_decided n c → pixel_decided n d → c ≡ d
pixel_once = one_answer pixel_number pixel_numbers pixel_back pixel_known

abbrev color_back : ℕ → Colorimetry
color_back n = cond (eqb n 0) ColorimetryV.NoData (cond (eqb n 1) ColorimetryV.Itu601 (cond (eqb n 2) ColorimetryV.Itu709 ColorimetryV.Extended))

color_known : (x : Colorimetry) → (one_of (color_number x) color_numbers ≡ true) × (color_back (color_number x) ≡ x)
color_known ColorimetryV.NoData = (refl, refl)
color_known ColorimetryV.Itu601 = (refl, refl)
color_known ColorimetryV.Itu709 = (refl, refl)
color_known ColorimetryV.Extended = (refl, refl)

pub color_in : (n : ℕ) (x : Colorimetry) → color_number x ≡ n → one_of n color_numbers ≡ true
color_in = one_of_lem color_number color_numbers color_back color_known

pub color_once : (n : ℕ) (c d : Result Colorimetry Refusal) → color_decided n c → color_decided n d → c ≡ d
color_once = one_answer color_number color_numbers color_back color_known

abbrev picture_back : ℕ → PictureAspectRatio
picture_back n = cond (eqb n 0) PictureAspectRatioV.NoData (cond (eqb n 1) PictureAspectRatioV.Ratio4_3 PictureAspectRatioV.Ratio16_9)

picture_known : (x : PictureAspectRatio) → (one_of (picture_number x) picture_numbers ≡ true) × (picture_back (picture_number x) ≡ x)
picture_known PictureAspectRatioV.NoData = (refl, refl)
picture_known PictureAspectRatioV.Ratio4_3 = (refl, refl)
picture_known PictureAspectRatioV.Ratio16_9 = (refl, refl)

pub picture_in : (n : ℕ) (x : PictureAspectRatio) → picture_number x ≡ n → one_of n picture_numbers ≡ true
picture_in = one_of_lem picture_number picture_numbers picture_back picture_known

pub picture_once : (n : ℕ) (c d : Result PictureAspectRatio Refusal) → picture_decided n c → picture_decided n d → c ≡ d
picture_once = one_answer picture_number picture_numbers picture_back picture_known

abbrev active_back : ℕ → ActiveFormatAspectRatio
active_back n = cond (eqb n 0) ActiveFormatAspectRatioV.NoData (cond (eqb n 8) ActiveFormatAspectRatioV.SameAsPar (cond (eqb n 9) ActiveFormatAspectRatioV.Ratio4_3 (cond (eqb n 10) ActiveFormatAspectRatioV.Ratio16_9 ActiveFormatAspectRatioV.Ratio14_9)))

active_known : (x : ActiveFormatAspectRatio) → (one_of (active_number x) active_numbers ≡ true) × (active_back (active_number x) ≡ x)
active_known ActiveFormatAspectRatioV.NoData = (refl, refl)
active_known ActiveFormatAspectRatioV.SameAsPar = (refl, refl)
active_known ActiveFormatAspectRatioV.Ratio4_3 = (refl, refl)
active_known ActiveFormatAspectRatioV.Ratio16_9 = (refl, refl)
active_known ActiveFormatAspectRatioV.Ratio14_9 = (refl, refl)

pub active_in : (n : ℕ) (x : ActiveFormatAspectRatio) → active_number x ≡ n → one_of n active_numbers ≡ true
active_in = one_of_lem active_number active_numbers active_back active_known

pub active_once : (n : ℕ) (c d : Result ActiveFormatAspectRatio Refusal) → active_decided n c → active_decided n d → c ≡ d
active_once = one_answer active_number active_numbers active_back active_known

abbrev quantization_back : ℕ → QuantizationRange
quantization_back n = cond (eqb n 0) QuantizationRangeV.Default (cond (eqb n 1) QuantizationRangeV.Limited QuantizationRangeV.Full)

quantization_known : (x : QuantizationRange) → (one_of (quantization_number x) quantization_numbers ≡ true) × (quantization_back (quantization_number x) ≡ x)
quantization_known QuantizationRangeV.Default = (refl, refl)
quantization_known QuantizationRangeV.Limited = (refl, refl)
quantization_known QuantizationRangeV.Full = (refl, refl)

pub quantization_in : (n : ℕ) (x : QuantizationRange) → quantization_number x ≡ n → one_of n quantization_numbers ≡ true
quantization_in = one_of_lem quantization_number quantization_numbers quantization_back quantization_known

pub quantization_once : (n : ℕ) (c d : Result QuantizationRange Refusal) → quantization_decided n c → quantization_decided n d → c ≡ d
quantization_once = one_answer quantization_number quantization_numbers quantization_back quantization_known

abbrev code_back : ℕ → VideoCode
code_back n = cond (eqb n 1) VideoCodeV.Code640x480P60 VideoCodeV.Code720x480P60

code_known : (x : VideoCode) → (one_of (code_number x) code_numbers ≡ true) × (code_back (code_number x) ≡ x)
code_known VideoCodeV.Code640x480P60 = (refl, refl)
code_known VideoCodeV.Code720x480P60 = (refl, refl)

pub code_in : (n : ℕ) (x : VideoCode) → code_number x ≡ n → one_of n code_numbers ≡ true
code_in = one_of_lem code_number code_numbers code_back code_known

pub code_once : (n : ℕ) (c d : Result VideoCode Refusal) → code_decided n c → code_decided n d → c ≡ d
code_once = one_answer code_number code_numbers code_back code_known
