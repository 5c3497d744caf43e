pub mod Counted
pub mod Needs
