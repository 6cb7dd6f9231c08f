pub mod Decimals
pub mod Joins
pub mod Pieces
