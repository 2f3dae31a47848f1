pub mod BytesLaws
pub mod SessionLaws
pub mod FormedInPlace
pub mod ChangeLaws
pub mod Promises
