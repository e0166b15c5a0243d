pub mod ImageLaw
pub mod QuotientLaw
pub mod ShareLaw
pub mod StepLaw
pub mod SumLaw
pub mod TurnLaw
