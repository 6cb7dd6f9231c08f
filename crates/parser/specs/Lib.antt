pub mod Naming
pub mod Parsing
pub mod Reading
