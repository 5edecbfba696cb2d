pub mod Elements
pub mod ElementLaws
pub mod Scalars
pub mod Ranges
pub mod Fused
pub mod FusedLaws
