pub mod AttemptLaw
pub mod ItemsLaw
pub mod SupplyLaw
