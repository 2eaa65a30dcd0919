pub mod Edges
pub mod Filling
