pub mod Migration
pub mod Token
pub mod Grant
