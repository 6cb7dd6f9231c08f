pub mod Folds
pub mod Trees
