mod Sources
mod Examples
mod Whole
mod Refused
pub mod PlainForms
mod PlainTreeExamples
pub mod Complete
pub mod Built
pub mod Counted
pub mod Unique
pub mod OneProgram
pub mod Sound
pub mod Tops
pub mod Answered
pub mod Verdict
pub mod Within
pub mod Own
pub mod Distinct
pub mod Widths
pub mod Spans
pub mod Placed
pub mod Calm
pub mod Clean
pub mod Parsed
pub mod Sorts
pub mod Heads
pub mod Numbered
pub mod Firsts
pub mod Roled
pub mod Shaped
pub mod Saids
pub mod Families
pub mod Acting
pub mod Stated
pub mod Always
