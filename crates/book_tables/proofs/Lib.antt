pub mod Ahead
pub mod Texts
pub mod Rows
