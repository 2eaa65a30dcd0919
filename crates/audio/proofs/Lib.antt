pub mod Counts
pub mod Edges
pub mod Samples
