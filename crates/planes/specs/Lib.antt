pub mod Squares
pub mod Planes
