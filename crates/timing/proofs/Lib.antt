pub mod ChainLaw
pub mod ProductLaw
