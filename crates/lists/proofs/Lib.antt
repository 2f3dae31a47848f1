pub mod Laws
pub mod Moves
pub mod Promises
