pub mod Audio
pub mod Clock
pub mod Info
pub mod Island
pub mod Packet
pub mod Parity
pub mod Period
pub mod Terc4
