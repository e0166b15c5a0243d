pub mod Example
pub mod Image
pub mod TestLaw
pub mod Views
