pub mod PlaceLaw
pub mod Theorems
pub mod WordLaw
