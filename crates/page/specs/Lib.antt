pub mod Page
pub mod Moves
pub mod Sweeps
