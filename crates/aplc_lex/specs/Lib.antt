pub mod Firsts
pub mod Signs
pub mod Heads
pub mod Tokens
pub mod Parts
