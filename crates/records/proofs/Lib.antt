pub mod Bits
pub mod Named
pub mod Turns
