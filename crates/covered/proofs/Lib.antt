pub mod Passes
pub mod Spread
pub mod Formulas
pub mod Holding
pub mod Covering
pub mod Members
