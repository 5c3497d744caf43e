pub mod Within
pub mod Loads
pub mod Even
pub mod EvenFaults
pub mod Judged
pub mod Lines
pub mod Document
