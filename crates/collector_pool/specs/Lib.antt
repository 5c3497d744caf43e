pub mod Fetches
pub mod Visits
pub mod Turns
