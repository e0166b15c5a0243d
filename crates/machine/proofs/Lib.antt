pub mod Figures
pub mod KindLaw
pub mod SlotLaw
pub mod WrittenLaw
