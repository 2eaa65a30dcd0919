pub mod Exact
pub mod Found
pub mod Numbers
pub mod Read
