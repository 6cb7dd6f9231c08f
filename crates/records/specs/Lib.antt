pub mod Kinds
pub mod Raw
pub mod Table
