pub mod Lent
pub mod Modular
pub mod Rings
pub mod Theorems
