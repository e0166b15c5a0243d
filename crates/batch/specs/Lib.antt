pub mod Batch
pub mod Calls
pub mod Secrecy
pub mod Theorems
pub mod Example
