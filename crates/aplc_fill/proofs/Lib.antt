pub mod Lists
pub mod RowMajor
pub mod Nests
pub mod Fillings
pub mod Builds
