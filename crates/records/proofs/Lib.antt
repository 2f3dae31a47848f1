pub mod RecordLaws
pub mod Promises
