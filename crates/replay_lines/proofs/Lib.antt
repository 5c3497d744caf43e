mod LineLemmas
mod Ahead
pub mod RunLines
mod JobLists
pub mod Resumptions
