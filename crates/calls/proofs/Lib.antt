pub mod Codes
pub mod Promises
pub mod Witnesses
