pub mod Blocks
pub mod Epochs
pub mod Leading
pub mod Meaning
pub mod Scripts
