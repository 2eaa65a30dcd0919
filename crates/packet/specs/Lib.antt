pub mod Asks
pub mod AviFields
