pub mod Small
pub mod Rehearsal
pub mod Driver
pub mod Promises
pub mod Example
