pub mod Lines
pub mod Readings
pub mod Printed
pub mod Theorems
