pub mod InputExamples
pub mod InputLaws
pub mod InputEnds
