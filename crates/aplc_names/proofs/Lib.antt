pub mod Firsts
pub mod Minima
pub mod Lists
pub mod Reached
pub mod HiddenNames
pub mod Resolved
pub mod Examples
pub mod Limits
pub mod Nodes
pub mod Weights
pub mod Ranges
pub mod Symbols
pub mod InRange
pub mod Elements
pub mod Headers
pub mod Below
pub mod SumForms
pub mod Carried
pub mod Growing
pub mod Alike
pub mod Spending
pub mod GivenArrays
pub mod Balancing
pub mod AssignedNames
pub mod Changing
pub mod SumsRun
pub mod RunExamples
mod AccountExamples
pub mod Scoped
mod Fitting
mod FittingPrograms
mod Declared
mod SpelledNames
mod NumberedNodes
mod Grammatical
pub mod Decided
mod FitExamples
