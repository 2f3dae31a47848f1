pub mod Bundle
pub mod Promises
