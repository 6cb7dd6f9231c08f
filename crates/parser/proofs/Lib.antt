pub mod Naming
pub mod Trees
mod Ranks
mod Moves
mod Steps
mod Joins
mod Blanks
mod Rows
mod Whole
