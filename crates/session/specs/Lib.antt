pub mod Outputs
pub mod Standings
pub mod Kept
pub mod Records
pub mod Course
pub mod Theorems
