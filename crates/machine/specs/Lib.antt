pub mod Answers
pub mod Checks
pub mod Figures
pub mod Orders
pub mod Registers
pub mod Step
pub mod Work
