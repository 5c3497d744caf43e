pub mod Configurations
pub mod Replays
pub mod Lines
pub mod AsRuns
pub mod Resumes
