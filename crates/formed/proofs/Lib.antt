pub mod Copies
pub mod Entered
pub mod Limits
pub mod Orders
pub mod Rows
pub mod Masks
