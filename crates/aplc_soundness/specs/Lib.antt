pub mod Changing
pub mod Exact
pub mod FactLaws
pub mod Holding
pub mod Passing
pub mod RulesHold
pub mod Taking
