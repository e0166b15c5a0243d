pub mod Asks
pub mod Raws
pub mod Lines
pub mod Draws
pub mod Theorems
