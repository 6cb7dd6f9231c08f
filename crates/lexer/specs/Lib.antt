pub mod Bounds
pub mod Lexer
pub mod Tokens
