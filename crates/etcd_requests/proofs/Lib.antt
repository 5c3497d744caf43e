pub mod Digits
pub mod Floats
pub mod Looks
