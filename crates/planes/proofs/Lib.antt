pub mod PartLaw
pub mod CellLaw
pub mod TurnLaw
pub mod MaskLaw
pub mod WordLaw
pub mod RowLaw
pub mod PlaceLaw
