pub mod States
pub mod Lists
pub mod Masks
