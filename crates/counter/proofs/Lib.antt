pub mod Edges
pub mod Frame
pub mod Lines
pub mod Order
pub mod States
