mod Seams
mod Lists
pub mod Equations
pub mod Forms
pub mod Examples
mod Plain
mod UniqueNumbers
mod UniqueExprs
mod UniqueStmts
mod UniquePrograms
pub mod WellFormedPlain
pub mod Values
pub mod Runs
pub mod Same
pub mod Paths
pub mod Rules
pub mod Loops
pub mod Counted
pub mod Wider
pub mod Stores
pub mod Singles
pub mod Functions
pub mod Matching
pub mod Kept
pub mod Survives
pub mod Writes
pub mod Frames
pub mod Emitted
pub mod Counting
pub mod Costs
mod RunExamples
