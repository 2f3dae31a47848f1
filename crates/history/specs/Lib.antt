pub mod History
pub mod Earning
pub mod Promises
pub mod Example
