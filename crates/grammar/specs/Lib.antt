pub mod Grammar
pub mod Numbering
pub mod Refusals
pub mod Sections
pub mod Shows
