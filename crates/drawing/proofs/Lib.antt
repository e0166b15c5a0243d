pub mod AskLaw
pub mod RawLaw
pub mod LinesLaw
pub mod DrawLaw
pub mod Theorems
