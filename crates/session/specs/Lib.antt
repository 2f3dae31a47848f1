pub mod Session
pub mod Formed
pub mod Outcome
