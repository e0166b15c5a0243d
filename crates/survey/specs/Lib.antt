pub mod Chunks
pub mod Theorems
