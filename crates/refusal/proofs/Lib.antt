pub mod Upward
pub mod Verdicts
