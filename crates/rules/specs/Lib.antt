pub mod Fields
pub mod Form
pub mod Laws
pub mod Read
pub mod Shown
