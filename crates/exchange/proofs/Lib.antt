pub mod CheckLaw
pub mod DealLaw
pub mod OpenLaw
