pub mod Kinds
pub mod Run
pub mod List
pub mod Promises
