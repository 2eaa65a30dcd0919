pub mod Counting
pub mod Decoding
pub mod Encoding
pub mod Maps
pub mod Words
