pub mod Choices
pub mod Deciding
pub mod Edges
