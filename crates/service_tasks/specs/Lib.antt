pub mod Later
pub mod Published
