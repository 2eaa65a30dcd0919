pub mod Bytes
pub mod Scratch
