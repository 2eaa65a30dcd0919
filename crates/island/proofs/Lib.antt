pub mod Answers
pub mod Beside
pub mod Characters
pub mod Edges
pub mod Filling
pub mod Streams
