pub mod Fills
pub mod Nests
