pub mod Edges
pub mod Expanding
pub mod Order
pub mod Ranges
pub mod States
