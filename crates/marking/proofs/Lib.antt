pub mod Places
pub mod Rows
pub mod Facts
pub mod Judging
pub mod Listed
