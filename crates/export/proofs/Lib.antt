pub mod Laws
pub mod Moves
pub mod Marked
