pub mod FieldLaw
pub mod ReadLaw
pub mod LineLaw
pub mod DecimalLaw
pub mod PrintLaw
pub mod ItemLaw
pub mod Theorems
