pub mod Arms
pub mod Bit
pub mod Bytes
pub mod Count
pub mod Digits
pub mod Front
pub mod Range
pub mod Search
