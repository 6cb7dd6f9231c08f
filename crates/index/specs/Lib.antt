pub mod Keyed
pub mod First
