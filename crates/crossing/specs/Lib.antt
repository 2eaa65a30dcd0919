pub mod Crossing
pub mod Signed
pub mod Timing
