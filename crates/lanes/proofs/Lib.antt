pub mod LaneLaw
pub mod GateLaw
pub mod StageLaw
pub mod OrderLaw
