mod Always
mod Causes
pub mod DigitSteps
mod Ended
mod Examples
mod Lexed
mod Places
mod Stages
pub mod Texts
pub mod Facts
pub mod Unbuilt
mod RunEnds
pub mod Verdicts
mod Worded
mod Callers
