pub mod Symbols
pub mod Decoding
pub mod Rows
pub mod Tallies
