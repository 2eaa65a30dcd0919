pub mod Command
pub mod LineState
pub mod Sync
pub mod Timing
