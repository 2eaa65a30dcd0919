pub mod Encode
pub mod Pair
pub mod Read
