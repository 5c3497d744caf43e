pub mod Gathering
pub mod Paths
pub mod Posted
pub mod Reports
pub mod Saying
