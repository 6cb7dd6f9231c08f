pub mod Formula
pub mod Written
pub mod Parts
pub mod Game
pub mod Laws
