pub mod Replay
pub mod Promises
