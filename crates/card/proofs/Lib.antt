pub mod Walk
pub mod Model
pub mod Rows
pub mod Puts
pub mod ReadBack
pub mod Whole
