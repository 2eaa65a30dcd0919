pub mod Edges
pub mod Lookups
pub mod Order
pub mod Reading
pub mod Symbols
