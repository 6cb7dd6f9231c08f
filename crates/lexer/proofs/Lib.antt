pub mod Limits
pub mod Looks
mod Samples
