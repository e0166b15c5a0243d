pub mod CallLaw
