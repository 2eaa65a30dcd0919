pub mod Asks
pub mod Line
pub mod Words
