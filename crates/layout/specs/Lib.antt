pub mod Layout
pub mod Theorems
