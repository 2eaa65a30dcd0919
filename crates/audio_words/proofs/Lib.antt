pub mod Digits
pub mod Grids
pub mod Headers
