pub mod WordLaw
pub mod GateLaw
pub mod StageLaw
