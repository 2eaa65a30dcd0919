pub mod Edges
pub mod Laying
