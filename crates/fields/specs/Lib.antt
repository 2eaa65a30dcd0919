pub mod ActiveFormatAspectRatio
pub mod Colorimetry
pub mod Numbers
pub mod PictureAspectRatio
pub mod PixelFormat
pub mod QuantizationRange
pub mod ScanInfo
pub mod VideoCode
