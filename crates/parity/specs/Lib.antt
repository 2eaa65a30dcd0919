pub mod Seal
pub mod Word
