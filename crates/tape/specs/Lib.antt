pub mod Tapes
pub mod Draws
pub mod Theorems
