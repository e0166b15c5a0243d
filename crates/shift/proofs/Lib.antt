pub mod ShiftLaw
