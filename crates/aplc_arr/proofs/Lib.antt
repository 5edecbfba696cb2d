pub mod Places
pub mod Elements
pub mod Shapes
pub mod Basics
pub mod Ranges
pub mod Counting
pub mod Keeping
pub mod KeepsEach
pub mod KeepsStructure
pub mod KeepsAxes
pub mod KeepsSelection
pub mod KeepsIndexing
pub mod KeepsOperators
pub mod Texts
mod Samples
mod ExamplesEach
mod ExamplesStructure
mod ExamplesSelection
mod ExamplesOperators
mod ExamplesDisplay
mod ExamplesCounts
