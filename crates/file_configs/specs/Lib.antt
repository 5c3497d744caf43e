pub mod Sources
pub mod Patterns
pub mod Listing
