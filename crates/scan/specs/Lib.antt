pub mod Look
pub mod Scan
