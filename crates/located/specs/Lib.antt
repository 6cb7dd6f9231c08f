pub mod Located
pub mod Numbers
