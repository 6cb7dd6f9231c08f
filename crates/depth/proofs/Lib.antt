pub mod Rounds
pub mod Targets
pub mod Passes
pub mod Accepted
