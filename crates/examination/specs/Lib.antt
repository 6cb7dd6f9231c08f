pub mod Faults
pub mod Examined
