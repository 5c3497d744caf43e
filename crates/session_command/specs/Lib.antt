pub mod Answers
pub mod Ended
pub mod Here
pub mod Lines
pub mod Pages
pub mod Totals
