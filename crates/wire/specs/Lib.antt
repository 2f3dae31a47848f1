pub mod Bytes
pub mod Sessions
pub mod Tables
pub mod Promises
