pub mod Conditions
pub mod Copied
pub mod Sizes
pub mod Tested
