pub mod Agreement
pub mod Blanks
pub mod Bytes
pub mod Complete
pub mod Fine
pub mod Lines
pub mod Names
pub mod Outcomes
pub mod Prefixes
pub mod Ranges
pub mod Reading
pub mod Refusal
pub mod Sound
pub mod Steps
pub mod Tokens
mod Example
