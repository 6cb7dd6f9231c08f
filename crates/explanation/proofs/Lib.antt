pub mod Sections
pub mod Short
