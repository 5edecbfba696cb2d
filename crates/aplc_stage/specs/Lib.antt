pub mod Staged
pub mod Computes
pub mod Pieces
pub mod Displays
