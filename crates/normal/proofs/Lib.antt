mod Filled
mod Folding
mod Places
mod Adding
mod Entering
mod Forms
mod Whole
