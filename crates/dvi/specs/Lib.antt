pub mod Control
pub mod Decoder
pub mod Encoder
pub mod Lanes
pub mod Plain
pub mod Row
pub mod Symbol
pub mod Tally
