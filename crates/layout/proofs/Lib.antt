pub mod ReadLaw
pub mod SaysLaw
pub mod Theorems
pub mod WriteLaw
