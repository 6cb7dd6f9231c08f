pub mod Limits
pub mod Layout
pub mod Trailer
pub mod Written
pub mod Named
pub mod Counts
pub mod Variables
