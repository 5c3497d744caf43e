pub mod Laws
pub mod Readings
pub mod Runs
pub mod Seats
