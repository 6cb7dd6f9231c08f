pub mod Truth
pub mod Tells
pub mod Lists
pub mod Same
pub mod Runs
pub mod Normal
pub mod Parts
pub mod Examples
