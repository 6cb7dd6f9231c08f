pub mod Labels
pub mod Sifts
pub mod Roots
