pub mod Constants
pub mod Operands
pub mod Building
pub mod Normalized
