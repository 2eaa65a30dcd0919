pub mod Asks
pub mod Crossing
