pub mod Outside
pub mod Parts
pub mod Memory
pub mod Adapters
pub mod Places
