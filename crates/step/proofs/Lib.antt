pub mod StepLaw
