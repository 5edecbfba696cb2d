pub mod Elements
mod Remainders
mod ScalarValues
mod DyadYields
mod MonoYields
mod ScalarFormed
mod ScalarBuilt
mod Fusing
