pub mod Codes
pub mod Listing
pub mod Rests
pub mod Steps
