pub mod Books
pub mod Kept
pub mod Samples
pub mod Standings
