pub mod Map
pub mod Word
