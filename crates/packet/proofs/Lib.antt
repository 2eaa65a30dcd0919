pub mod Edges
pub mod Fields
pub mod Infos
