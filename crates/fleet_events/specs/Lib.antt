pub mod Lines
pub mod Targets
pub mod Reading
pub mod Writing
