pub mod Along
pub mod Answer
pub mod Wire
