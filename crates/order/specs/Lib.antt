pub mod Answers
pub mod Attempts
pub mod Changes
pub mod Sources
pub mod Tasks
