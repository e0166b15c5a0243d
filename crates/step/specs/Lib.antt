pub mod Found
pub mod Lent
pub mod Ways
pub mod Words
