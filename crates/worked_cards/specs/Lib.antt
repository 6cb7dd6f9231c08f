pub mod Outcome
pub mod Worked
pub mod Wrong
