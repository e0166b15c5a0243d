pub mod BitLaw
pub mod CongLaw
pub mod FoldLaw
pub mod RangeLaw
pub mod Theorems
pub mod WordLaw
