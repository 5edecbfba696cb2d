pub mod Scalar
pub mod Number
pub mod Input
