pub mod CheckLaw
pub mod CostLaw
pub mod PrepareLaw
pub mod SoundLaw
pub mod StepLaw
pub mod VerdictLaw
