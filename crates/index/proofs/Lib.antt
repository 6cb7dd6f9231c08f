pub mod Probes
pub mod Lookups
pub mod Insertions
pub mod Halves
