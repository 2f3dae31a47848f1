pub mod Gates
pub mod Runs
