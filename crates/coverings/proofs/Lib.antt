pub mod Bits
pub mod Low
pub mod Subsets
pub mod Valuations
pub mod Rows
pub mod Counts
pub mod Whole
