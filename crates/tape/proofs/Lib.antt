pub mod FillLaw
pub mod KindLaw
pub mod CourseLaw
pub mod Theorems
