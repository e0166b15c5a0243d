pub mod Lengths
pub mod Supplies
