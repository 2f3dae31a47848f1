pub mod Laws
pub mod FormedLaws
