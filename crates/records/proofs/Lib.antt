pub mod Promises
pub mod RecordLaws
pub mod Samples
