pub mod Tests
pub mod Nodes
pub mod Verdicts
pub mod Listings
pub mod Checks
pub mod Roots
