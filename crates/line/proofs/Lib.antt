pub mod Edges
pub mod Figures
pub mod Order
pub mod Polarity
pub mod Stores
pub mod Whole
pub mod Wire
