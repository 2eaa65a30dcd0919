pub mod Division
pub mod Running
pub mod Sealing
pub mod Stores
