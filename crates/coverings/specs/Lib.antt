pub mod Cubes
pub mod Bitmap
pub mod Coverings
