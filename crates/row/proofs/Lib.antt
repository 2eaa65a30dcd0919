pub mod Edges
pub mod Order
pub mod Turns
