pub mod Acts
pub mod Local
pub mod Orders
pub mod Same
