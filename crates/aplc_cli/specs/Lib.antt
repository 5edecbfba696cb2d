pub mod Digits
pub mod Sources
pub mod Compiled
pub mod Words
pub mod Came
pub mod Carrying
pub mod Call
