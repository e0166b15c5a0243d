pub mod BitsLaw
pub mod Figures
pub mod LentLaw
pub mod LoanLaw
pub mod RunLaw
pub mod TurnLaw
