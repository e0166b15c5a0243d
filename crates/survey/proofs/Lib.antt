pub mod ChunkLaw
pub mod LoopLaw
pub mod Theorems
