pub mod Encode
pub mod Pairs
pub mod Words
