pub mod Steppers
pub mod StepperLaws
pub mod Wholes
