pub mod AroundLaw
pub mod TakeLaw
pub mod Theorems
