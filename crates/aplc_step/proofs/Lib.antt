pub mod Accesses
pub mod Addresses
pub mod Wholes
pub mod Builds
