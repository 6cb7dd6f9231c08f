pub mod Entries
pub mod Trees
pub mod Junctions
