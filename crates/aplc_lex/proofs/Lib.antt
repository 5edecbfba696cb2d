pub mod Values
pub mod Steps
pub mod First
pub mod Order
pub mod Exclusive
pub mod Always
