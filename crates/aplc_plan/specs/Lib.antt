pub mod Held
pub mod Walked
