mod Fronts
pub mod Gives
mod Named
pub mod Pieces
pub mod Sent
