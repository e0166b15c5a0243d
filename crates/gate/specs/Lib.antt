pub mod Gates
pub mod Lent
pub mod Places
pub mod Theorems
pub mod Words
