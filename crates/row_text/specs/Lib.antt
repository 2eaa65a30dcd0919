pub mod Answer
pub mod Text
