pub mod Numbering
pub mod Whole
