pub mod Laws
pub mod Grant
