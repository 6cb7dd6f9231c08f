pub mod Descending
pub mod Deepest
