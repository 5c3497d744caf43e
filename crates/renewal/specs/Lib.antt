pub mod Continuity
pub mod Histories
