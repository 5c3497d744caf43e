pub mod Sites
pub mod Bodies
pub mod Authorizing
pub mod Admission
