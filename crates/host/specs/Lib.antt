pub mod Host
pub mod Promises
pub mod Inside
