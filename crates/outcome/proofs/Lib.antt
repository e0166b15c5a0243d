pub mod AcceptLaw
pub mod ChannelLaw
pub mod CheckLaw
pub mod KindLaw
pub mod OrderLaw
pub mod RegisterLaw
pub mod Theorems
pub mod WorkLaw
