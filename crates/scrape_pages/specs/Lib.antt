pub mod Found
pub mod Kept
pub mod Requests
pub mod Times
pub mod Pages
