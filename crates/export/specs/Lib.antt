pub mod Export
pub mod Marked
