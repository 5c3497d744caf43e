pub mod Promises
pub mod Journals
