pub mod WholeLines
pub mod Leading
pub mod Starts
pub mod Opens
