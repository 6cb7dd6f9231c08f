pub mod Trees
pub mod Placed
pub mod Found
pub mod Steps
pub mod Entries
pub mod Memo
