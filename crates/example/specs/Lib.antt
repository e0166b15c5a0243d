pub mod Example
pub mod Figures
